use Rattle.ready.specs.Order.{before}
use Rattle.ready.proofs.Orderings.{count_by_placed}
use Rattle.ready.proofs.Lawful.{lawful_rest, lawful_most}
use Rattle.ready.proofs.Puts.{lawful_put}
use Rattle.ready.proofs.theorems.lists_stay_lawful.Goals as goal

pub returns : goal.returns
returns c = record { adds = count_by_placed before; put = lawful_put; take = lawful_rest; most = lawful_most }
