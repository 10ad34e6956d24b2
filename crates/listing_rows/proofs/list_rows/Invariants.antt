-- `listing_rows::list_rows`: the rows put so far are the first ones.
use Rattle.std.proofs.Common.{◌≡◌, ◌*◌, ◌≤◌, length, take, IsErr, OnOk}
use Rattle.listing_stored.specs.Stored.{store_of}
use Rattle.listing_rows.specs.Rows.{Gathers, rows_text}
use Rattle.listing_rows.proofs.list_rows.Given as goal

abbrev pub invariant-loop-row : goal.invariant-loop-row
invariant-loop-row g l = record {
  within : l.room.at ≤ length l.out;
  most : l.bytes ≤ 1099511627776 * l.row;
  failed : IsErr l.fn.from.written → l.room.written ≡ l.fn.from.written;
  bytes : l.bytes ≡ length (rows_text (store_of l.store) l.row);
  text : OnOk l.room.written (Gathers (g.W.Write.contents l.initial.writer) (take l.fn.from.at l.initial.out) (g.W.Write.contents l.writer) (take l.room.at l.out) (rows_text (store_of l.store) l.row));
}
