-- The two kinds of entries.
use Rattle.std.proofs.Common.{◌≡◌, List, arith}
use Rattle.std.specs.Cmp.{IsStrictWeakOrder}
use Rattle.std.proofs.lemmas.Bool.Decides.{nat_tests}
use Rattle.ready.specs.Order.{before}
use Rattle.ready.proofs.Urgency.{before_one_way, not_before_chain}
use Rattle.heap.specs.declared.release.Release.{Release}
use Rattle.heap.specs.Coming.{earlier, release_fields}
use Rattle.heap.specs.Heaps.{Distinct}

pub job_order : IsStrictWeakOrder before
job_order = record { one_way = before_one_way; chain = not_before_chain }

pub release_order : IsStrictWeakOrder earlier
release_order = record { one_way = λ x y h. grind (arith, nat_tests); chain = λ x y z h k. grind (arith, nat_tests) }

same_release : (a b : Release) → release_fields a ≡ release_fields b → a ≡ b
same_release a b e =
    let p : a.time ≡ b.time = cc in
    let q : a.task ≡ b.task = cc in
    λ i. record { time = p i; task = q i }

-- every field of a release is an order field
pub releases_distinct : (xs : List Release) → Distinct release_fields xs
releases_distinct xs a b p q e = same_release a b e
