use Rattle.reports.proofs.Records.{one_record}
use Rattle.reports.proofs.table.push_record.Goals as goal
use Rattle.reports.proofs.table.push_record.Goals.{in-Ok, in-Err}

pub returns : goal.returns
returns g c =
    elim c.match-write_fields.branch [
      | in-Ok w ↦
          let wrote = w.in-Ok.ensures in
          rw w.result-is (λ text before. one_record g.W.Write.contents c.args.writer.now c.write_fields.new.self text _ before wrote.bytes wrote.ended wrote.clean wrote.setup)
      | in-Err w ↦ rw w.result-is tt
    ]
