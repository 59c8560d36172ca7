use Rattle.std.proofs.Common.{◌≡◌, ℕ, suc, ◌<◌, List, length, get_or, sym, ◌∙◌, ap, subst, arith}
use Rattle.parts.specs.RowsOfParts.{parts_in}
use Rattle.parts.specs.SeriesParts.{SeriesValue}
use Rattle.prepare.specs.Columns.{AreColumns, cut_to}
use Rattle.prepare.proofs.Columns.{cut_columns}
use Rattle.prepare.proofs.CutBack.{on_ok, on_err, put_back}
use Rattle.prepare.proofs.Places.{rows_count}
use Rattle.prepare.proofs.recurrence.add_degree.Goals as goal

pub returns-clause-ok : goal.returns-clause-ok
returns-clause-ok c = on_ok _ c.add_rows.result (sym c.is_err.ensures.value ∙ c.if-is_err.false) c.add_rows.ensures.ok

pub returns-then-is_err-clause-p_columns : goal.returns-then-is_err-clause-p_columns
returns-then-is_err-clause-p_columns c =
    let rows : c.add_rows.new.p.rows.items ≡ c.args.p.now.rows.items =
    on_err _ c.add_rows.result (sym c.is_err.ensures.value ∙ c.if-is_err.true) c.add_rows.ensures.p_rows in
    let long : length c.cut_back.new.series ≡ length c.add_rows.new.p.series.items =
    omega (arith, c.cut_back.auto.series, ap (length {A = SeriesValue}) c.deref_mut.ensures.value) in
    let count : length (parts_in c.args.p.now.rows.items) ≡ c.len-r.result =
    omega (arith, rows_count c.args.p.now.rows.items, c.len-r.ensures, c.args.p.now.rows.ok.0) in
    subst (AreColumns c.args.given.now.ring c.args.given.now.k (parts_in c.add_rows.new.p.rows.items))
    (sym (put_back c.add_rows.new.p.series.len c.cut_back.new.series c.add_rows.new.p.series.items long
    (omega (arith, c.add_rows.new.p.series.ok.0))))
    (subst (λ t. AreColumns c.args.given.now.ring c.args.given.now.k t c.cut_back.new.series)
    (sym (ap parts_in rows))
    (cut_columns c.args.given.now.ring c.args.given.now.k c.len-r.result (parts_in c.args.p.now.rows.items)
    c.add_rows.new.p.series.items c.cut_back.new.series count long
    (subst (λ (old : List SeriesValue). (i : ℕ) (x : SeriesValue) → i < length old
    → get_or c.cut_back.new.series i x ≡ cut_to c.len-r.result (get_or old i x)) c.deref_mut.ensures.value
    c.cut_back.ensures) c.add_rows.ensures.p_begin))

pub returns-then-is_err-clause-u_columns : goal.returns-then-is_err-clause-u_columns
returns-then-is_err-clause-u_columns c =
    let rows : c.add_rows.new.u.rows.items ≡ c.args.u.now.rows.items =
    on_err _ c.add_rows.result (sym c.is_err.ensures.value ∙ c.if-is_err.true) c.add_rows.ensures.u_rows in
    let long : length c.cut_back-then-is_err.new.series ≡ length c.add_rows.new.u.series.items =
    omega (
      arith,
      c.cut_back-then-is_err.auto.series,
      ap (length {A = SeriesValue}) c.deref_mut-then-is_err.ensures.value,
    ) in
    let count : length (parts_in c.args.u.now.rows.items) ≡ c.len-r.result =
    omega (arith, rows_count c.args.p.now.rows.items, c.len-r.ensures, c.args.p.now.rows.ok.0, c.requires.is.same) in
    subst (AreColumns c.args.given.now.ring (suc c.args.given.now.q) (parts_in c.add_rows.new.u.rows.items))
    (sym (put_back c.add_rows.new.u.series.len c.cut_back-then-is_err.new.series c.add_rows.new.u.series.items long
    (omega (arith, c.add_rows.new.u.series.ok.0))))
    (subst (λ t. AreColumns c.args.given.now.ring (suc c.args.given.now.q) t c.cut_back-then-is_err.new.series)
    (sym (ap parts_in rows))
    (cut_columns c.args.given.now.ring (suc c.args.given.now.q) c.len-r.result (parts_in c.args.u.now.rows.items)
    c.add_rows.new.u.series.items c.cut_back-then-is_err.new.series count long
    (subst (λ (old : List SeriesValue). (i : ℕ) (x : SeriesValue) → i < length old
    → get_or c.cut_back-then-is_err.new.series i x ≡ cut_to c.len-r.result (get_or old i x))
    c.deref_mut-then-is_err.ensures.value c.cut_back-then-is_err.ensures) c.add_rows.ensures.u_begin))
