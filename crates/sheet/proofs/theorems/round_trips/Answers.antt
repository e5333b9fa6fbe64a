use Rattle.sheet.proofs.ReadsBack.{reads_back}
use Rattle.sheet.proofs.WritesBack.{writes_back}
use Rattle.sheet.proofs.Lawful.{says_lawful}
use Rattle.sheet.proofs.theorems.round_trips.Goals as goal

pub returns : goal.returns
returns c = record { reads = reads_back; writes = writes_back; lawful = says_lawful }
