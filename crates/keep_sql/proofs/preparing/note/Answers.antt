use Rattle.std.proofs.Common.{subst}
use Rattle.sqlite.specs.Held.{state}
use Rattle.keep_sql.specs.Preparing.{NotesStore}
use Rattle.keep_sql.proofs.Noting.{notes_ours}
use Rattle.keep_sql.proofs.preparing.note.Goals as goal

pub returns-in-None-clause-notes : goal.returns-in-None-clause-notes
returns-in-None-clause-notes g c clean is_open store =
    let s0 = state g.S.Store c.args.conn.now in
    let s1 = state g.S.Store c.found_or_noted.new.conn in
    let made = subst (NotesStore s0 s1) c.in-None.is (c.in_ok-number.ensures.notes clean is_open store) in
    notes_ours s0 s1 made.0 made.1 made.2
