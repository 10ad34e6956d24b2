-- `listing_rows::list_elements`: the lines put so far are the first ones of the text.
use Rattle.std.proofs.Common.{◌≡◌, ◌-◌, ◌*◌, ◌≤◌, ℕ, List, ◌++◌, length, take, IsErr, OnOk}
use Rattle.listing_lines.specs.Lines.{line_room}
use Rattle.listing_rows.specs.Rows.{Gathers}
use Rattle.listing_rows.proofs.ElementLaws.{text_from}
use Rattle.listing_rows.proofs.list_elements.Given as goal

abbrev pub invariant-loop-i : goal.invariant-loop-i
invariant-loop-i g l = record {
  within : l.room.at ≤ length l.out;
  most : l.bytes ≤ line_room * (l.i - l.first);
  failed : IsErr l.fn.from.written → l.room.written ≡ l.fn.from.written;
  text : (before : List ℕ) × (l.bytes ≡ length before) × (before ++ text_from l.store.columns.now l.store.elements.now l.i l.end ≡ text_from l.store.columns.now l.store.elements.now l.first l.end)
      × OnOk l.room.written (Gathers (g.W.Write.contents l.initial.writer) (take l.fn.from.at l.initial.out) (g.W.Write.contents l.writer) (take l.room.at l.out) before);
}
