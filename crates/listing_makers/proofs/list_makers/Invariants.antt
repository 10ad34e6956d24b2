-- `listing_makers::list_makers`: the lines put so far are those of the first rows.
use Rattle.std.proofs.Common.{◌≡◌, ◌*◌, ◌≤◌, length, take, [], OnOk}
use Rattle.pywr.specs.Store.{Store}
use Rattle.listing_lines.specs.Lines.{line_room}
use Rattle.listing_rows.specs.Rows.{Gathers}
use Rattle.listing_makers.specs.Makers.{makers_text}
use Rattle.listing_makers.proofs.list_makers.Given as goal

abbrev pub invariant-loop-row : goal.invariant-loop-row
invariant-loop-row g l = record {
  within : l.room.at ≤ length l.out;
  most : l.bytes ≤ line_room * l.row;
  lines : (s : Store) → s.shape ≡ l.shape
      → (l.bytes ≡ length (makers_text s l.row)) × OnOk l.room.written (Gathers (g.W.Write.contents l.initial.writer) [] (g.W.Write.contents l.writer) (take l.room.at l.out) (makers_text s l.row));
}
