use Rattle.std.proofs.Common.{Some, sym, ap, ◌∙◌, subst}
use Rattle.std.proofs.lemmas.Str.{IsUtf8-from_ascii}
use Rattle.std.proofs.lemmas.Result.{IfOk-weaker}
use Rattle.matchit.specs.Params.{AllText}
use Rattle.http_routes.specs.Places.{place_of, with_parts, row_of}
use Rattle.http_routes.proofs.Looking.{unlike, found, missing}
use Rattle.http_routes.proofs.place.Table.place_of.Goals as goal

pub returns-then-not-is_ascii : goal.returns-then-not-is_ascii
unfolding place_of
returns-then-not-is_ascii c = sym (ap with_parts (ap row_of (sym c.path_of-path.ensures) ∙ unlike _ c.if-not-is_ascii.ensures.cases))

pub returns-in_default : goal.returns-in_default
returns-in_default c = absurd (c.in_default.ensures.cases.0 (IsUtf8-from_ascii _ c.if-not-is_ascii.ensures.cases))

pub with_parts-requires : goal.with_parts-requires
with_parts-requires c =
    subst AllText (sym c.iter.ensures.value)
    (found c.path_of-path.result.now c.in-Ok.path.now c.in-Ok-at.found.params.path.now c.self.inside.router _ c.if-not-is_ascii.ensures.cases
    c.in-Ok.ensures.cases.0 c.self.invariant c.in-Ok-at.ensures.found c.in-Ok-at.ensures.path).0

pub returns-in-Ok-at : goal.returns-in-Ok-at
unfolding place_of
returns-in-Ok-at c =
    let row = found c.path_of-path.result.now c.in-Ok.path.now c.in-Ok-at.found.params.path.now c.self.inside.router _ c.if-not-is_ascii.ensures.cases
    c.in-Ok.ensures.cases.0 c.self.invariant c.in-Ok-at.ensures.found c.in-Ok-at.ensures.path in
    IfOk-weaker c.with_parts.result _ _ (λ place is.
    is ∙ ap (λ parts. with_parts (Some (c.in-Ok-at.found.value.now, parts))) c.iter.ensures.value
    ∙ sym (ap with_parts (ap row_of (sym c.path_of-path.ensures) ∙ row.1))) c.with_parts.ensures

pub returns-in-Err : goal.returns-in-Err
unfolding place_of
returns-in-Err c =
    sym (ap with_parts (ap row_of (sym c.path_of-path.ensures) ∙ missing c.path_of-path.result.now c.in-Ok.path.now c.self.inside.router c.if-not-is_ascii.ensures.cases
    c.in-Ok.ensures.cases.0 c.self.invariant c.in-Err.ensures.missing))
