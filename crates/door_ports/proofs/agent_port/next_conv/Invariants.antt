use Rattle.std.proofs.Common.{◌≡◌, ◌-◌}
use Rattle.door_ports.specs.Settings.{least_from, next_conv}
use Rattle.door_ports.proofs.agent_port.next_conv.Given as goal

abbrev pub invariant-loop-at : goal.invariant-loop-at
invariant-loop-at l = least_from (258 - l.at) l.at l.convs ≡ next_conv l.convs
