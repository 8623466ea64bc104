-- `put` of the HPET's fields meets its contract: its last word is the number of the page protection.
use Rattle.answers.proofs.devices.HpetInfoValues.put.Goals as goal

pub returns : goal.returns
returns c = rw (← c.from.ensures) c.put.ensures
