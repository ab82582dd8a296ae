-- Behind a request that is carried out, and its searches, an answer is there, or the authentication server is asked.
use Rattle.std.proofs.Common.{◌≡◌, ℕ, List, true}
use Rattle.roles.specs.declared.need.Need.{Need}
use Rattle.roles.specs.declared.need.Need.TheVariants.{Nothing, Key, Offers, Pick, Exchange}
use Rattle.roles.specs.Talks.{offered, picked}
use Rattle.talks.specs.Requests.{RpcRequest}
use Rattle.talks.specs.declared.answer.RpcAnswer.{RpcAnswer}
use Rattle.talks.specs.Protocols.{needs}
use Rattle.talks.specs.Calls.{Found, Chosen, AsksConsent, AsksKey, Denied, NoneServes, Offered, Picked}
use Rattle.talks.specs.Standings.{Phase, Seeking, OnServer, Kept, Standing, carried_out, phase_after, sought}
use Rattle.world_promises.specs.Telling.{Searches, asks_nobody, finds, rests}
use Rattle.driven_agents.proofs.StandLemmas.{Stands, carried_so, key_so, made_so}

abbrev pub IsUp : Phase → Type 0
IsUp (Kept answer) = Unit {0}
IsUp OnServer = Unit {0}
IsUp Seeking = Unit {0}
IsUp phase = ⊥

after_up : (n : Need) (answer : RpcAnswer) → IsUp (phase_after n answer)
after_up Nothing answer = tt
after_up (Key template) answer = tt
after_up (Offers template) answer = tt
after_up (Pick templates) answer = tt
after_up (Exchange request shape) answer = tt

abbrev Up : Standing → Type 0
Up s = IsUp s.phase

up_so : Stands Up
up_so = record { moves = λ s b answer. after_up (needs b.start b.moves) answer; ends = λ s answer. tt }

pub carried_up : (s : Standing) (word : List ℕ) (request : RpcRequest) → IsUp (carried_out s word request).phase
carried_up s word request = carried_so Up up_so s word request

sought_up : (s : Standing) (came : Found) → asks_nobody came ≡ true → IsUp s.phase → IsUp (sought s came).phase
sought_up s (Chosen key) nobody up = key_so Up up_so s key s.begun up
sought_up s (AsksConsent key) nobody up = absurd cc
sought_up s AsksKey nobody up = absurd cc
sought_up s Denied nobody up = tt
sought_up s NoneServes nobody up = tt
sought_up s (Offered list) nobody up = made_so Up up_so s (offered list) s.begun up
sought_up s (Picked place) nobody up = made_so Up up_so s (picked place) s.begun up

pub searched_up : (s now : Standing) → Searches s now → IsUp s.phase → IsUp now.phase × (now.phase ≡ Seeking → ⊥)
searched_up s now (rests resting) up = (up, resting)
searched_up s now (finds came seeks is nobody later) up = searched_up (sought s came) now later (sought_up s came nobody up)
