-- `listing::list_columns`: the columns put so far are the first ones.
use Rattle.std.proofs.Common.{◌≡◌, ◌*◌, ◌≤◌, length, take, OnOk}
use Rattle.listing_lines.specs.Lines.{line_room}
use Rattle.listing_stored.specs.Stored.{store_of}
use Rattle.listing_rows.specs.Rows.{Gathers}
use Rattle.listing.specs.Listing.{columns_text}
use Rattle.listing.proofs.list_columns.Given as goal

abbrev pub invariant-loop-c : goal.invariant-loop-c
invariant-loop-c g l = record {
  within : l.room.at ≤ length l.out;
  most : l.bytes ≤ line_room * l.c;
  bytes : l.bytes ≡ length (columns_text (store_of l.store) l.c);
  text : OnOk l.room.written (Gathers (g.W.Write.contents l.initial.writer) (take l.from l.initial.out) (g.W.Write.contents l.writer) (take l.room.at l.out) (columns_text (store_of l.store) l.c));
}
