-- When a conversation stands for a start and a talk: the machine of the protocol that the start's template names does.
use Rattle.std.specs.Prelude.{◌≡◌, ℕ, List, ◌∷◌}
use Rattle.roles.specs.declared.answer.Gave.{Gave}
use Rattle.roles.specs.Answers.{IsOffers, IsPick}
use Rattle.roles.specs.Starts.{Start}
use Rattle.roles.specs.Talks.{Call, offered, picked}
use Rattle.conv_p9sk1.specs.Standing as sk
use Rattle.conv_p9any.specs.Standing as any
use Rattle.conv_challenge.specs.Standing as mail
use Rattle.talks.specs.declared.conv.Conv.{Conv}
use Rattle.talks.specs.declared.conv.Conv.TheVariants as c
use Rattle.talks.specs.Protocols.{Protocol, P9sk1, P9any, Mail, answers, needs, p9sk1, protocol_of}

-- the template names this protocol, and its machine stands for both
abbrev pub In : {M : Type 0} → Protocol → (M → Start → List Call → Type 0) → M → Start → List Call → Type 0
In p stands m start talk = (protocol_of start.template ≡ p) × stands m start talk

abbrev pub Stands : Conv → Start → List Call → Type 0
Stands (c.P9sk1 m) start talk = In P9sk1 sk.Stands m start talk
Stands (c.P9any m) start talk = In P9any (any.Stands sk.Stands p9sk1) m start talk
Stands (c.Mail m) start talk = In Mail mail.Stands m start talk

-- where offers are needed, it is answered so, and they are met
abbrev pub TellsOffered : Conv → Gave → List ℕ → Type 0
TellsOffered old gave list = (start : Start) (talk : List Call) → Stands old start talk → IsOffers (needs start talk)
    → gave ≡ answers start talk (offered list)

abbrev pub KeepsOffered : Conv → Conv → List ℕ → Type 0
KeepsOffered old new list = (start : Start) (talk : List Call) → Stands old start talk → IsOffers (needs start talk)
    → Stands new start (offered list ∷ talk)

-- the same of a pick
abbrev pub TellsPicked : Conv → Gave → ℕ → Type 0
TellsPicked old gave place = (start : Start) (talk : List Call) → Stands old start talk → IsPick (needs start talk)
    → gave ≡ answers start talk (picked place)

abbrev pub KeepsPicked : Conv → Conv → ℕ → Type 0
KeepsPicked old new place = (start : Start) (talk : List Call) → Stands old start talk → IsPick (needs start talk)
    → Stands new start (picked place ∷ talk)
