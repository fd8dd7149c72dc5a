use Rattle.mm_dispatch.proofs.beginning.begin_call.Goals as goal

pub returns : goal.returns
returns g c =
    let starts = c.begin.ensures.starts in
    record {
      sound = c.sound.ensures.sound;
      tidy = c.sound.ensures.tidy;
      starts = starts;
      keeps = starts.keeps c.args.t.now c.requires.next.keeps;
      form = c.begin.ensures.form;
    }
