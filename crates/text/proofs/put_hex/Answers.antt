-- `text::put_hex` meets its contract.
use Rattle.std.proofs.Common.{◌≡◌, ℕ, ap, ◌∙◌, arith}
use Rattle.io.specs.Digits.{last_digits}
use Rattle.text.specs.Text.{sixteen_digits}
use Rattle.text.proofs.Placed.{put_as}
use Rattle.text.proofs.Digits.{few}
use Rattle.text.proofs.put_hex.Goals as goal

pub put_all-requires : goal.put_all-requires
put_all-requires c = let within = few 16 16 _ _ 16 (omega arith) (omega arith) (omega arith) c.hex-k.ensures.len in omega arith

pub returns : goal.returns
unfolding sixteen_digits
returns c =
    let within = few 16 16 _ _ 16 (omega arith) (omega arith) (omega arith) c.hex-k.ensures.len in
    let all : c.hex-k.result ≡ 16 = omega arith in
    put_as (c.hex-k.ensures.digits ∙ ap (λ (k : ℕ). last_digits 16 k c.args.n) all) c.put_all.ensures
