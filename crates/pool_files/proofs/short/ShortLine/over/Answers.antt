-- `pool_files::short::ShortLine::over` meets its contract, act by act.
use Rattle.std.proofs.Common.{sym, ap, ◌∙◌}
use Rattle.pool_files.specs.Short.{Skip, Keep, Name, Count, Comment, in_field, tabbed}
use Rattle.pool_files.proofs.Shorts.{act-next, act-count, act-comment, act-name, act-keep, act-skip, over-line, over-buffer, next-line}
use Rattle.pool_files.proofs.Shorts.{next-buffer}
use Rattle.pool_files.proofs.short.ShortLine.over.Goals as goal

pub returns-then-field-lt7 : goal.returns-then-field-lt7
returns-then-field-lt7 c =
    let e = act-next _ c.args.self.matched _ c.if-byte-eq9.true c.if-field-lt7.true in
    record { value = c.put.ensures.value ∙ next-line _ _ _ _ e c.wrapping_add_usize.ensures.value; short_after = c.put.ensures.short_after ∙ next-buffer _ _ _ _ e c.wrapping_add_usize.ensures.value }

pub returns-then-byte-eq9 : goal.returns-then-byte-eq9
returns-then-byte-eq9 c =
    let s = c.args.self in
    let e = act-count _ s.matched _ c.if-byte-eq9.true c.if-field-lt7.false in
    record { value = ap (tabbed s) c.wrapping_add_usize.ensures.value ∙ over-line _ _ _ _ Count e; short_after = over-buffer _ _ _ _ Count e }

pub returns-then-self-eq0 : goal.returns-then-self-eq0
returns-then-self-eq0 c =
    let e = act-comment _ _ _ c.if-byte-eq9.false c.if-field-eq0.true c.if-byte-eq35.true c.if-self-eq0.true in
    record { value = over-line _ _ _ _ Comment e; short_after = over-buffer _ _ _ _ Comment e }

pub returns-then-field-eq0 : goal.returns-then-field-eq0
returns-then-field-eq0 c =
    let s = c.args.self in
    let e = act-name _ _ _ c.if-byte-eq9.false c.if-field-eq0.true c.else-byte-eq35.either in
    record { value = ap (in_field s s.field) c.go_on.ensures ∙ over-line _ _ _ _ Name e; short_after = over-buffer _ _ _ _ Name e }

pub returns-then-keeps : goal.returns-then-keeps
returns-then-keeps c =
    let e = act-keep _ c.args.self.matched _ c.if-byte-eq9.false c.if-field-eq0.false (sym c.keeps.ensures ∙ c.if-keeps.true) in
    record { value = c.put-then-keeps.ensures.value ∙ over-line _ _ _ _ Keep e; short_after = c.put-then-keeps.ensures.short_after ∙ over-buffer _ _ _ _ Keep e }

pub returns : goal.returns
returns c =
    let e = act-skip _ c.args.self.matched _ c.if-byte-eq9.false c.if-field-eq0.false (sym c.keeps.ensures ∙ c.if-keeps.false) in
    record { value = over-line _ _ _ _ Skip e; short_after = over-buffer _ _ _ _ Skip e }
