-- The places of a row: where an element is put, and what a rotation leaves.
use Rattle.std.proofs.Common.{◌≡◌, ℕ, ◌+◌, ◌-◌, ◌<◌, ◌≤◌, List, [], ◌∷◌, ◌++◌, length, get_or, take, drop, set, sym, ap, ◌∙◌, arith}
use borrow.Rule.Slice.PartMut.{put_mid, post_of}
use Rattle.std.proofs.lemmas.List.{append_assoc, length-append, length-take-le, length-drop, drop_more, take_at, drop_at, take-take, take-set-le, take_more_set, drop-append-le, length-set, get_or-take}
use Rattle.std.proofs.lemmas.Slice.{between_is}

-- x is written behind the first n, and the places from a on are rotated to the right
module _ {X : Type 0} (js : List X) (n a : ℕ) (x : X) (l : n < length js) (le : a ≤ n) where
  mid_is : take (n + 1 - a) (drop a (set js n x)) ≡ drop a (take n js) ++ x ∷ []
  mid_is = between_is (set js n x) a (n + 1) ∙ ap (drop a) (take_more_set js n x l) ∙ drop-append-le a (take n js) (x ∷ []) (omega (arith, length-take-le n js (omega arith)))

  rest_long : length (drop a (take n js)) ≡ n - a
  rest_long = length-drop a (take n js) ∙ ap (λ m. m - a) (length-take-le n js (omega arith))

  mid_long : length (take (n + 1 - a) (drop a (set js n x))) ≡ n - a + 1
  mid_long = ap length mid_is ∙ length-append (drop a (take n js)) (x ∷ []) ∙ ap (λ m. m + 1) rest_long

  turned : (ys mid : List X) (k : ℕ) → mid ≡ drop a (take n js) ++ x ∷ [] → k ≡ n - a → ys ≡ drop k mid ++ take k mid → ys ≡ x ∷ drop a (take n js)
  turned ys mid k e f t =
      let w = drop a (take n js) in
      t ∙ ap (λ m. drop k m ++ take k m) e ∙ ap (λ m. m ++ take k (w ++ x ∷ [])) (drop_at w (x ∷ []) k (rest_long ∙ sym f)) ∙ ap (λ m. x ∷ m) (take_at w (x ∷ []) k (rest_long ∙ sym f))

  pub turned_in : (ys : List X) → (let mid = take (n + 1 - a) (drop a (set js n x)) in ys ≡ drop (length mid - 1) mid ++ take (length mid - 1) mid) → take (n + 1) (put_mid a (n + 1 - a) (set js n x) ys) ≡ take a (take n js) ++ x ∷ drop a (take n js)
  turned_in ys t =
      let J = set js n x in
      let w = drop a (take n js) in
      let y = turned ys (take (n + 1 - a) (drop a J)) (length (take (n + 1 - a) (drop a J)) - 1) mid_is (omega (arith, mid_long)) t in
      let la = length-take-le a J (omega (arith, length-set js n x)) in
      let post = post_of a (n + 1 - a) J in
      ap (take (n + 1)) (sym (append_assoc (take a J) ys post)) ∙ take_at (take a J ++ ys) post (n + 1) (length-append (take a J) ys ∙ omega (arith, la, ap length y, rest_long))
      ∙ ap (λ m. take a J ++ m) y ∙ ap (λ m. m ++ x ∷ w) (take-set-le a js n x le ∙ sym (take-take a n js le))

-- the first n are rotated to the left, and then the last of them is left off
pub turned_out : {X : Type 0} (js : List X) (n m : ℕ) (d : X) (ys : List X) → m ≡ n → 0 < n → n ≤ length js → ys ≡ drop 1 (take m js) ++ take 1 (take m js) → take n js ≡ get_or js 0 d ∷ take (n - 1) (ys ++ drop m js)
turned_out js n m d ys e p l t =
    let xs = take m js in
    let long : length (drop 1 xs) ≡ n - 1 = length-drop 1 xs ∙ ap (λ i. i - 1) (length-take-le m js (omega arith) ∙ e) in
    let rest : take (n - 1) (ys ++ drop m js) ≡ drop 1 (take n js) = ap (λ i. take (n - 1) (i ++ drop m js)) t ∙ ap (take (n - 1)) (append_assoc (drop 1 xs) (take 1 xs) (drop m js)) ∙ take_at (drop 1 xs) _ (n - 1) long ∙ ap (λ i. drop 1 (take i js)) e in
    drop_more (take n js) 0 d (omega (arith, length-take-le n js l)) ∙ ap (λ y. y ∷ drop 1 (take n js)) (get_or-take n js 0 d p) ∙ ap (λ r. get_or js 0 d ∷ r) (sym rest)
