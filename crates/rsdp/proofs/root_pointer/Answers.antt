-- `root_pointer` meets its contract: a refusal is handed on, else the structure says what it says.
use Rattle.std.proofs.Common.{rules}
use Rattle.rsdp.proofs.PointerLaws.{answer_valid, answer_refused}
use Rattle.rsdp.proofs.root_pointer.Goals as goal

pub returns-in_err-structure : goal.returns-in_err-structure
returns-in_err-structure c = search (rules, answer_refused)

pub returns-in_err-check : goal.returns-in_err-check
returns-in_err-check c = search (rules, answer_refused)

pub returns : goal.returns
returns c = search (rules, answer_valid)
