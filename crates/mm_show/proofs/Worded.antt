-- The words of a program as texts.
use Rattle.std.proofs.lemmas.List.{length-map}

pub ruleset worded = (length-map)
