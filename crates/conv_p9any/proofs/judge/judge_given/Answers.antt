use Rattle.conv_p9any.proofs.judge.judge_given.Goals as goal

pub returns-in-ClientFirst : goal.returns-in-ClientFirst
returns-in-ClientFirst c = rw c.in-ClientFirst.is c.judge_list.ensures
