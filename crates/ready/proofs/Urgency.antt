-- The order of urgency.
use Rattle.std.proofs.Common.{◌≡◌, ◌≤◌, true, false, arith}
use Rattle.std.proofs.lemmas.Bool.Decides.{nat_tests}
use Rattle.ready.specs.declared.job.Job.{Job}
use Rattle.ready.specs.Order.{before}

-- of two jobs at most one is before the other
pub before_one_way : (a b : Job) → before a b ≡ true → before b a ≡ false
before_one_way a b h = grind (arith, nat_tests)

-- a job that is not before a second is not before a third which the second is not before
pub not_before_chain : (a b c : Job) → before a b ≡ false → before b c ≡ false → before a c ≡ false
not_before_chain a b c h k = grind (arith, nat_tests)

pub before_self : (a : Job) → before a a ≡ false
before_self a = grind (arith, nat_tests)

-- jobs of which neither is the more urgent are of one task and number
pub tie_task : (a b : Job) → before a b ≡ false → before b a ≡ false → a.task ≡ b.task
tie_task a b h k = grind (arith, nat_tests)

pub tie_number : (a b : Job) → before a b ≡ false → before b a ≡ false → a.number ≡ b.number
tie_number a b h k = grind (arith, nat_tests)

-- no job has a smaller key than one that it is not before
pub least_key : (a b : Job) → before b a ≡ false → a.key ≤ b.key
least_key a b h = grind (arith, nat_tests)
