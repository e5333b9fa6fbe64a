-- A queue of lanes without jobs.
use Rattle.std.proofs.Common.{◌≡◌, ℕ, zero, suc, ◌+◌, ◌≤◌, Bool, cond, ltb, [], ◌++◌, get_or, take, replicate, count_by, sym, refl, ap, ◌∙◌, arith}
use Rattle.std.specs.List.{flat_map}
use Rattle.std.proofs.lemmas.Bool.{le-ltb}
use Rattle.ready.specs.Waiting.{is_job, of_task}
use Rattle.lane_queue.specs.declared.lane.Lane.{Lane}
use Rattle.lane_queue.specs.Lanes.{lane_jobs, empty}
use Rattle.lane_queue.specs.Words.{bit}
use Rattle.lane_queue.proofs.Bits.{bit_none}

module _ (l : Lane) (none : l.len ≡ 0) where
  fresh_len : (n k : ℕ) → (get_or (replicate n l) k empty).len ≡ 0
  fresh_len zero k = refl
  fresh_len (suc n) zero = none
  fresh_len (suc n) (suc k) = fresh_len n k

  pub fresh_jobs : (n : ℕ) → flat_map lane_jobs (replicate n l) ≡ []
  fresh_jobs zero = refl
  fresh_jobs (suc n) = ap (λ m. take m l.jobs ++ flat_map lane_jobs (replicate n l)) none ∙ fresh_jobs n

  pub fresh_marked : (n k : ℕ) → bit k 0 ≡ cond (ltb 0 (get_or (replicate n l) k empty).len) 1 0
  fresh_marked n k = bit_none k ∙ sym (ap (λ (b : Bool). cond {A = ℕ} b 1 0) (le-ltb 0 (get_or (replicate n l) k empty).len (omega (arith, fresh_len n k))))

  pub fresh_owned : (n k : ℕ) → count_by (of_task (k + 1)) (lane_jobs (get_or (replicate n l) k empty)) ≡ (get_or (replicate n l) k empty).len
  fresh_owned n k = let e = fresh_len n k in ap (λ m. count_by (of_task (k + 1)) (take m (get_or (replicate n l) k empty).jobs)) e ∙ sym e

  pub fresh_once : (n task number : ℕ) → count_by (is_job task number) (flat_map lane_jobs (replicate n l)) ≤ 1
  fresh_once n task number = omega (arith, ap (count_by (is_job task number)) (fresh_jobs n))
