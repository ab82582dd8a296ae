use Rattle.client_doors.proofs.OtherLaws.{coming, going, wrongs_of_others}
use Rattle.client_doors.proofs.laws.others_do_not_count.Goals as goal

pub returns : goal.returns
returns c = record { came = coming; left = going; wronged = wrongs_of_others }
