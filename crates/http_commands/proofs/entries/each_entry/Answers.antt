use Rattle.std.proofs.Common.{◌≡◌, Ok, sym, subst}
use Rattle.std.specs.List.{All}
use Rattle.std.proofs.lemmas.List.Elements.{All-push}
use Rattle.serde_json.specs.View.{view}
use Rattle.http_routes.specs.declared.part.Part.TheVariants.{Pages}
use Rattle.http_commands.specs.Shapes.{in_shape}
use Rattle.http_commands.specs.Entries.{entry_of, IsAtWeb}
use Rattle.http_commands.proofs.Lists.{entries_turn}
use Rattle.http_commands.proofs.entries.each_entry.Goals as goal

pub loop-page-preserved : goal.loop-page-preserved
loop-page-preserved c =
    let found = c.loop-page.found.items in
    let more = c.in_ok-push-in-Ok.ensures.items in
    let meant =
    subst (λ earlier. in_shape Pages c.loop-page.place (entry_of earlier (view c.page-item.result)) ≡ Ok c.in-Ok.entry) c.as_slice.ensures.value c.in-Ok.ensures.exact
    in record {
      exact =
          entries_turn c.args.pages.now c.loop-page.page-index c.page-item.result found c.push.new.self.items c.loop-page.place c.saturating_add-place.result c.in-Ok.entry _
          c.loop-page-test.true c.page-item.is more c.saturating_add-place.ensures c.loop-page.invariant.exact meant;
      web = subst (All IsAtWeb) (sym more) (All-push IsAtWeb found c.in-Ok.entry c.loop-page.invariant.web c.in-Ok.ensures.web);
    }
