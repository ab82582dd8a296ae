-- What keeps an agent idle.
use Rattle.driven_agents.specs.Idle.{ClosingsKeepIdle, NewNodesAreIdle, OpeningsKeepIdle, TakesLeaveNothing, WritesKeepIdle}
use Rattle.driven_agents.proofs.ClosesLaws.{close_is}
use Rattle.driven_agents.proofs.IdleLaws.{idle_behind}
use Rattle.driven_agents.proofs.NewLaws.{new_is}
use Rattle.driven_agents.proofs.OpensLaws.{seat_is}
use Rattle.driven_agents.proofs.WritesLaws.{write_is}

pub takes_leave_nothing : TakesLeaveNothing
takes_leave_nothing event h calm runs = idle_behind event h calm runs

pub writes_keep_idle : WritesKeepIdle
writes_keep_idle fid bytes h idle runs = (write_is fid bytes h idle runs).idle

pub closings_keep_idle : ClosingsKeepIdle
closings_keep_idle fid number h seat idle runs = (close_is fid number h idle seat runs).idle

pub openings_keep_idle : OpeningsKeepIdle
openings_keep_idle fid h idle small off new runs none = let s = seat_is fid h idle small off new runs none in record { idle = s.idle; next = s.opened; seat = s.seat }

pub new_nodes_are_idle : NewNodesAreIdle
new_nodes_are_idle runs = (new_is runs).idle
