-- `put` meets its contract: the words of the profile, of the model and of the timer, in order.
use Rattle.std.proofs.Common.{rules, ℕ, List, Ok, subst}
use Rattle.answers.specs.Answer.{Put}
use Rattle.tablewalk.proofs.PlatformLaws.{seven_words}
use Rattle.tablewalk.proofs.platform_info.PlatformInfoValues.put.Goals as goal

pub returns : goal.returns
returns c =
    let timer = seven_words c.args.self.pm_timer c.timer_words.result c.timer_words.ensures in
    subst (λ (words : List ℕ). Put (Ok words) c.put.result c.args.out.now c.put.new.out) (search (rules, timer)) c.put.ensures
