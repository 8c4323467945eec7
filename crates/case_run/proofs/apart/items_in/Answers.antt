use Rattle.case_run.proofs.KeyOfList.{plain_key}
use Rattle.case_run.proofs.apart.items_in.Goals as goal

pub cut-requires : goal.cut-requires
cut-requires c = plain_key
