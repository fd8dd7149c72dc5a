use Rattle.std.proofs.Common.{rules, ◌-◌, length, drop, refl, ap, subst, ◌∙◌}
use Rattle.mm_types.specs.{Text}
use Rattle.mm_move_rules.specs.{IsLegal}
use Rattle.mm_replay.specs.Standing.{life}
use Rattle.mm_log_check.specs.{StandsInFront}
use Rattle.mm_log_check.proofs.{took_front}
use Rattle.mm_log_check.proofs.readers.LogReader.take_front.Goals as goal

pub returns-clause-read : goal.returns-clause-read
returns-clause-read c = λ h left left' moves reading.
    let held : Text = c.args.self.now.held in
    let rest : Text = c.in-Some.rest.now in
    let front : StandsInFront c.front_move.new.m rest held = subst (λ (t : Text). StandsInFront c.front_move.new.m rest t) c.bytes-bytes.ensures c.in-Some.ensures in
    let legal : IsLegal c.front_move.new.m (life c.args.life.now) = search rules in
    took_front left left' c.args.self.now _ (life c.args.life.now) moves c.front_move.new.m rest reading front c.requires.few legal
    (c.skip.ensures ∙ ap (λ (t : Text). drop (length t - length rest) held) c.bytes-bytes.ensures) refl refl
