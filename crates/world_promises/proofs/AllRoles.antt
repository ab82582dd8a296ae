-- Each role is as a role should be.
use Rattle.roles.specs.Starts.{Start}
use Rattle.talks.specs.Protocols.{Mail, P9any, P9sk1, Protocol, protocol_of}
use Rattle.wire_histories.specs.Conversations.{speaker, speaks}
use Rattle.world_promises.specs.Roles.{IsRole}
use Rattle.world_promises.proofs.AnyRole.{any_role}
use Rattle.world_promises.proofs.MailRole.{mail_role}
use Rattle.world_promises.proofs.SkRole.{sk_role}

role_of_protocol : (p : Protocol) (start : Start) → IsRole (speaks p start)
role_of_protocol P9sk1 start = sk_role start
role_of_protocol P9any start = any_role start
role_of_protocol Mail start = mail_role start

pub all_roles : (start : Start) → IsRole (speaker start)
all_roles start = role_of_protocol (protocol_of start.template) start
