-- The conversation of a question that stands waits for the authentication server, which it asks something.
use Rattle.std.proofs.Common.{◌≡◌, ℕ, Bool, true, eqb, ◌&&◌, Option, Some, None, refl, ap}
use Rattle.std.proofs.lemmas.Bool.{and_parts}
use Rattle.roles.specs.declared.need.Need.{Need}
use Rattle.roles.specs.declared.need.Need.TheVariants.{Exchange}
use Rattle.roles.specs.Answers.{IsExchange}
use Rattle.talks.specs.Protocols.{needs}
use Rattle.talks.specs.declared.said.Said.{Said}
use Rattle.talks.specs.Standings.{Begun, Phase, OnServer, Standing, need_in}
use Rattle.agent_history.specs.Conversations.{asker, questions, standing_of, stands, talk}
use Rattle.agent_history.specs.Histories.{History, deeds}
use Rattle.agent_laws.specs.Laws.{asks_server}
use Rattle.agent_laws.proofs.GrowLaws.{all_are_asked}
use Rattle.wire_histories.specs.Conversations.{is_asked}
use Rattle.world_promises.specs.Telling.{on_server}
use Rattle.driven_agents.proofs.AskedLemmas.{needs_exchange}
use Rattle.driven_agents.proofs.HandedLaws.{on_server as waits_there}
use Rattle.world_promises.proofs.FoundLemmas.{number_passes}

exchange_asked : (need : Need) → IsExchange need → is_asked need ≡ true
exchange_asked (Exchange request shape) is = refl
exchange_asked need is = absurd is

-- it was begun, and asks by what its role met
pub record IsOnServer (s : Standing) : Type 0 where
  pub begun : Begun
  pub stands : s ≡ on_server begun s.starting s.said
  pub asked : is_asked (needs begun.start begun.moves) ≡ true

by_parts : (begun : Option Begun) (phase : Phase) (starting : Bool) (said : Said) → phase ≡ OnServer → is_asked (need_in begun) ≡ true → IsOnServer (record { begun = begun; phase = phase; starting = starting; said = said })
by_parts None phase starting said e asked = absurd cc
by_parts (Some b) phase starting said e asked = record { begun = b; stands = ap (λ p. record { begun = Some b; phase = p; starting = starting; said = said }) e; asked = asked }

on_it : (s : Standing) → s.phase ≡ OnServer → IsExchange (need_in s.begun) → IsOnServer s
on_it s e is = by_parts s.begun s.phase s.starting s.said e (exchange_asked (need_in s.begun) is)

pub asker_waits : (h : History) (call number : ℕ) → asker (deeds h) call ≡ Some number → IsOnServer (standing_of (deeds h) number)
asker_waits h call number asked =
    let done = deeds h in
    let there = number_passes (λ q. q.conv) (λ q. eqb q.call call) (λ n. stands done n && asks_server done n) (questions done) number asked (all_are_asked h) in
    let e = waits_there (standing_of done number).phase (and_parts (stands done number) (asks_server done number) there).1 in
    on_it (standing_of done number) e (needs_exchange (talk done number) e)
