-- `text::put_decimal` meets its contract.
use Rattle.std.proofs.Common.{arith}
use Rattle.text.proofs.Placed.{put_as}
use Rattle.text.proofs.Digits.{few}
use Rattle.text.proofs.put_decimal.Goals as goal

pub put_all-requires : goal.put_all-requires
put_all-requires c = let within = few 10 1 _ _ 20 (omega arith) (omega arith) (omega arith) c.decimal-k.ensures.len in omega arith

pub returns : goal.returns
returns c =
    record {
      places = c.decimal-k.result;
      few = few 10 1 _ _ 20 (omega arith) (omega arith) (omega arith) c.decimal-k.ensures.len;
      fewest = c.decimal-k.ensures.len;
      put = put_as c.decimal-k.ensures.digits c.put_all.ensures;
    }
