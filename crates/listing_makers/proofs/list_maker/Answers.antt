-- `listing_makers::list_maker` meets its contract.
use Rattle.std.proofs.Common.{◌∙◌, ap, subst, arith, length}
use Rattle.std.specs.Io.KnownBytes.{Appends}
use Rattle.pywr.specs.declared.Refusal.{Refusal}
use Rattle.listing_rows.proofs.GatherLaws.{after}
use Rattle.listing_lines.specs.Lines.{refusal_line}
use Rattle.listing_makers.proofs.MakerLineLaws.{rows_counted, there, not_there}
use Rattle.listing_makers.proofs.list_maker.Goals as goal

pub returns-then-row_count-row-clause-bytes : goal.returns-then-row_count-row-clause-bytes
returns-then-row_count-row-clause-bytes g c s e =
    let n = rows_counted s c.args.shape.now _ c.row_count.ensures.0 e in
    c.list_refusal.ensures.bytes ∙ ap (λ (r : Refusal). length (refusal_line r.number r.place)) c.at.ensures ∙ ap length (not_there s c.args.row (omega arith))

pub returns-then-row_count-row-clause-text : goal.returns-then-row_count-row-clause-text
returns-then-row_count-row-clause-text g c s e =
    let n = rows_counted s c.args.shape.now _ c.row_count.ensures.0 e in
    let line = ap (λ (r : Refusal). refusal_line r.number r.place) c.at.ensures ∙ not_there s c.args.row (omega arith) in
    after c.list_refusal.result.written c.list_refusal.ensures.text (λ t. subst (Appends _ _) line t)

pub returns-clause-bytes : goal.returns-clause-bytes
returns-clause-bytes g c s e =
    let n = rows_counted s c.args.shape.now _ c.row_count.ensures.0 e in
    let line = ap length (there s c.args.row _ (c.row_maker.ensures s e) (omega arith)) in
    omega (arith, line, c.put_maker-end.ensures.put.next)

pub returns-clause-text : goal.returns-clause-text
returns-clause-text g c s e =
    let n = rows_counted s c.args.shape.now _ c.row_count.ensures.0 e in
    let line = there s c.args.row _ (c.row_maker.ensures s e) (omega arith) in
    after c.write_all.result c.write_all.ensures.whole (λ t. subst (Appends _ _) (c.put_maker-end.ensures.put.written ∙ line) t)
