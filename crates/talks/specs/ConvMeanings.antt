-- What the code calls a protocol, in the words of the definitions.
use Rattle.talks.specs.declared.conv.Protocol.{Protocol as Held}
use Rattle.talks.specs.declared.conv.Protocol.TheVariants as held
use Rattle.talks.specs.Protocols.{Protocol, P9sk1, P9any, Mail}

abbrev pub meant : Held → Protocol
meant held.P9sk1 = P9sk1
meant held.P9any = P9any
meant held.Mail = Mail
