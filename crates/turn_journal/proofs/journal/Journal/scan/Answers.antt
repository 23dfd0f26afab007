use Rattle.std.proofs.Common.{rules}
use Rattle.turn_journal.proofs.journal.Journal.scan.Goals as goal

pub returns-then-byte-clause-found : goal.returns-then-byte-clause-found
returns-then-byte-clause-found g c = search rules

pub returns-clause-found : goal.returns-clause-found
returns-clause-found g c = search rules
