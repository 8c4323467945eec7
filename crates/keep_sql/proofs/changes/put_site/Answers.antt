use Rattle.std.proofs.Common.{pos, [], map, arith, subst}
use Rattle.sqlite.specs.Held.{state}
use Rattle.sqlite.specs.State.{HasCleanDisk}
use Rattle.named_rows.specs.ByName.{put_rows}
use Rattle.sql_rows.specs.Tables.{name_at}
use Rattle.store_statements.specs.Changes.{Makes, PutsSite, ChangesMembers}
use Rattle.store_tables.specs.Members.{member_cells}
use Rattle.keep_sql.proofs.Ready.{ready_same}
use Rattle.keep_sql.proofs.Wholes.{onward, of_ok}
use Rattle.keep_sql.proofs.Over.{PutsMembers, Lists, site_over}
use Rattle.keep_sql.proofs.changes.put_site.Goals as goal

pub returns-clause-makes : goal.returns-clause-makes
returns-clause-makes g c clean ready =
    let site = c.args.site.now in
    let name = c.as_str-name.result.now in
    let s0 = state g.S.Store c.args.tx.now.conn.now in
    let s1 = state g.S.Store c.check_site.new.tx.conn.now in
    let s2 = state g.S.Store c.write_site.new.tx.conn.now in
    let s3 = state g.S.Store c.write_members.new.tx.conn.now in
    let s4 = state g.S.Store c.write_languages.new.tx.conn.now in
    let clean3 : HasCleanDisk s3 = omega (arith, clean, c.write_languages.ensures.steps.survives.clean) in
    let clean2 : HasCleanDisk s2 = omega (arith, clean3, c.write_members.ensures.steps.survives.clean) in
    let clean1 : HasCleanDisk s1 = omega (arith, clean2, c.write_site.ensures.steps.survives.clean) in
    let found = of_ok c.check_site.result c.in_ok-check_site.field-0 c.in_ok-check_site.was (c.check_site.ensures.finds clean1 ready) in
    let row = of_ok c.write_site.result c.in_ok-write_site.field-0 c.in_ok-write_site.was (c.write_site.ensures.makes clean2 (ready_same s0 s1 ready found.1)) in
    let users = of_ok c.write_members.result c.in_ok-write_members.field-0 c.in_ok-write_members.was (c.write_members.ensures.makes clean3 row.ready) in
    let sited : Makes (PutsSite site.name (pos site.counter)) s1 s2 = subst (λ n. Makes (PutsSite n (pos site.counter)) s1 s2) c.as_str-name.ensures row in
    let members : Makes (PutsMembers site) s2 s3 =
    subst (λ n. Makes (ChangesMembers n (λ _. put_rows (name_at 1) (map (member_cells n) site.members) [])) s2 s3) c.as_str-name.ensures
    (subst (λ ms. Makes (ChangesMembers name (λ _. put_rows (name_at 1) (map (member_cells name) ms) [])) s2 s3) c.as_slice.ensures users) in
    onward c.write_languages.result
    (λ made. site_over site s0 s1 s2 s3 s4 found.1.0.now_is found.0 sited members
    (subst (λ n. Makes (Lists n site.languages) s3 s4) c.as_str-name.ensures (subst (λ ls. Makes (Lists name ls) s3 s4) c.as_slice-2.ensures made)))
    (c.write_languages.ensures.makes clean users.ready)
