-- `listing_rows::list_elements` meets its contract.
use Rattle.std.proofs.Common.{sym, ◌∙◌, ap, ◌++◌, append_assoc, ◌+◌, arith, get_or, length, length-append, rules}
use lib.Ieee.{nan}
use Rattle.listing_lines.specs.Lines.{element_line}
use Rattle.listing_rows.proofs.ElementLaws.{text_from, text_more, text_all}
use Rattle.listing_rows.proofs.GatherLaws.{gathers_as, after, fails_on, both, gathers_line}
use Rattle.listing_rows.proofs.list_elements.Goals as goal

pub loop-i-preserved : goal.loop-i-preserved
loop-i-preserved g c =
    let (before, count, split, text) = c.loop-i.invariant.text in
    let columns = c.args.store.now.columns.now in
    let elements = c.args.store.now.elements.now in
    let i = c.loop-i.i in
    let put = c.put_element-at.ensures.put in
    let line = element_line c.from-column.result (get_or elements i nan) in
    let e = text_more columns elements i c.args.end c.from-column.result (search rules) (search rules) (search rules) c.from-column.ensures in
    let room = c.spare-line.ensures in
    record {
      within = search rules;
      most = omega (arith, put.next, c.put_element-at.ensures.end, c.loop-i.invariant.most);
      failed = fails_on _ _ _ c.loop-i.invariant.failed room.failed;
      text = (
        before ++ line,
        omega (arith, length-append before line, count, put.next),
        append_assoc before line (text_from columns elements (i + 1) c.args.end) ∙ ap (λ l. before ++ l) (sym e) ∙ split,
        both c.loop-i.room.written c.spare-line.result.written room.failed text room.text (λ g h. gathers_line g h put),
      );
    }

pub returns-clause-bytes : goal.returns-clause-bytes
returns-clause-bytes g c =
    let (before, count, split, text) = c.loop-i.invariant.text in
    count ∙ ap length (text_all c.args.store.now.columns.now c.args.store.now.elements.now c.loop-i.i c.args.end before _ (omega (arith, c.loop-i-test.false)) split)

pub returns-clause-text : goal.returns-clause-text
returns-clause-text g c =
    let (before, count, split, text) = c.loop-i.invariant.text in
    let all = text_all c.args.store.now.columns.now c.args.store.now.elements.now c.loop-i.i c.args.end before _ (omega (arith, c.loop-i-test.false)) split in
    after c.loop-i.room.written text (λ t. gathers_as all t)
