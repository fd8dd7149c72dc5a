-- Requests by their tests.
use Rattle.std.proofs.Common.{◌≡◌, true, false, refl}
use Rattle.mm_types.specs.{Request}
use Rattle.mm_types.specs.declared.frames.Request.TheVariants as request
use Rattle.mm_move_rules.specs.{has_request, is_read, is_write}

pub read_has : (q : Request) → is_read q ≡ true → has_request q ≡ true
read_has request.Read e = refl
read_has _ e = cc

pub write_has : (q : Request) → is_write q ≡ true → has_request q ≡ true
write_has request.None e = cc
write_has _ e = refl

pub write_not_read : (q : Request) → is_write q ≡ true → is_read q ≡ false
write_not_read request.Read e = cc
write_not_read _ e = refl

pub calm : (q : Request) → has_request q ≡ false → is_read q ≡ false
calm request.None e = refl
calm _ e = cc
