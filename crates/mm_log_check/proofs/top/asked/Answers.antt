use Rattle.std.proofs.Common.{refl, map, string_bytes}
use Rattle.mm_log_check.proofs.{asks_none}
use Rattle.mm_log_check.proofs.top.asked.Goals as goal

pub returns-in-None-clause-all : goal.returns-in-None-clause-all
returns-in-None-clause-all c a asks =
    let none = rw c.in-None.is at c.in_ok-said.ensures in
    absurd (asks_none _ _ (map string_bytes c.args.words.now) none (record { check = refl; check_least = refl; key = refl; key_least = refl; key_most = refl }) a asks)
