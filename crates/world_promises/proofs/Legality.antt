-- The record is legal where its conversations are, and these are where each agent does as its conversations do.
use Rattle.std.proofs.Common.{◌≡◌, ℕ, ◌+◌, List, [], ◌∷◌, length, length-append, Bool, true, false, All, Option, Some, None, refl, sym, ap, subst, ◌∙◌, reverse}
use Rattle.std.specs.Option.{option_map}
use Rattle.std.specs.Prelude.{if◌then◌else◌}
use Rattle.std.proofs.lemmas.List.Elements.{All-cons, All-nil}
use Rattle.roles.specs.Talks.{Call as Move}
use Rattle.talks.specs.Standings.{Begun}
use Rattle.wire_histories.specs.Histories.{acts_of, reloads_in}
use Rattle.wire_histories.specs.Conversations.{Speaker, meets, met_by, speaker}
use Rattle.wire_histories.specs.Legal.{IsConversation, IsLegal, IsMet, MayBe}
use Rattle.world_history.specs.Acts.{Act}
use Rattle.world_history.specs.Scripts.{play, world}
use Rattle.world_history.specs.Worlds.{history}
use Rattle.agent_history.specs.Conversations.{talk}
use Rattle.agent_history.specs.Histories.{deeds}
use Rattle.world_promises.specs.Begun.{BegunWith, StartsWell}
use Rattle.world_promises.specs.Telling.{acts_in}
use Rattle.world_promises.proofs.BegunLaws.{starts_well}
use Rattle.driven_agents.specs.Keys.{AreMet}
use Rattle.driven_agents.proofs.ToldLaws.{told_ring_keys}
use Rattle.world_promises.specs.Agents.{AgentsDo}
use Rattle.world_promises.specs.Conditions.{AreDone}
use Rattle.world_history.specs.AllTables.{past_tables, tables_of}
use Rattle.world_promises.specs.Settings.{Place, place_of, setting, spoken_at, spoken_by, standing_at}
use Rattle.world_promises.specs.LegalityStatements.{ConversationsAre, KeysAreOfRings, record_of}
use Rattle.world_promises.proofs.PlayLaws.{played}
use Rattle.world_promises.proofs.NumberLaws.{numbered}
use Rattle.world_promises.proofs.DomainLaws.{domain_named}
use Rattle.world_promises.proofs.SessionLaws.{past_number, served}
use Rattle.world_promises.proofs.StayLaws.{reloads_so}
use Rattle.world_promises.proofs.RestartLaws.{restarts_end}
use Rattle.world_promises.proofs.WordLaws.{Word, words_so}
use Rattle.world_promises.proofs.ConversationLaws.{all_said, left_at}

-- there is one pair of tables more than they were read again
tables_count : (acts : List Act) → length (setting acts).tables ≡ reloads_in (record_of acts) + 1
tables_count acts =
    length-append (past_tables acts) (tables_of acts ∷ [])
    ∙ ap (λ n. n + 1) (past_number acts ∙ sym (reloads_so acts))

pub legal : (acts : List Act) → AreDone acts → ConversationsAre acts → IsLegal (record_of acts) (setting acts)
legal acts done conversations = record {
  domain = domain_named acts done;
  tables = tables_count acts;
  conversations = conversations;
  restarts = restarts_end acts done;
  sessions = served acts done;
  numbered = numbered acts;
}

-- ---- keys

one_met : (b : Bool) (move : Move) (met : List Move) → IsMet move → All IsMet met → All IsMet (if b then move ∷ met else met)
one_met true move met is are = All-cons IsMet move met is are
one_met false move met is are = are

met_keys : (s : Speaker) (moves : List Move) → AreMet moves → All IsMet (met_by s moves)
met_keys s [] are = All-nil IsMet
met_keys s (move ∷ moves) are = one_met (meets (s.needs moves) move) move (met_by s moves) are.0 (met_keys s moves are.1)

pub keys_of_rings : (acts : List Act) → KeysAreOfRings acts
keys_of_rings acts name place b is so = met_keys (speaker b.start) b.moves (told_ring_keys (history acts place.agent) place.number b so)

-- ---- conversations

may_be : (acts : List Act) → AreDone acts → AgentsDo acts → (name : List ℕ) (place : Place) (b : Begun) → place_of acts name ≡ Some place → (standing_at acts place).begun ≡ Some b → All IsMet (spoken_by place.node b).met → MayBe (spoken_by place.node b)
may_be acts done does name place b is so keys =
    let well = subst StartsWell so (starts_well (talk (deeds (history acts place.agent)) place.number)) in
    record { tuple = well.tuple; fits = well.fits; starts = well.starts; word = subst (BegunWith Word) so (words_so acts done does name place is); keys = keys }

by_begun : (acts : List Act) → AreDone acts → AgentsDo acts → (name : List ℕ) (place : Place) → place_of acts name ≡ Some place → (begun : Option Begun) → (standing_at acts place).begun ≡ begun → IsConversation (option_map (spoken_by place.node) begun) (acts_of name (record_of acts))
by_begun acts done does name place is None so =
    all_said acts done does name ∙ ap (left_at acts) is ∙ ap acts_in so
by_begun acts done does name place is (Some b) so = record {
  may = may_be acts done does name place b is so (keys_of_rings acts name place b is so);
  talk = b.moves;
  met = refl;
  kept = refl;
  later = [];
  left = sym (all_said acts done does name ∙ ap (left_at acts) is ∙ ap acts_in so);
}

by_place : (acts : List Act) → AreDone acts → AgentsDo acts → (name : List ℕ) (o : Option Place) → place_of acts name ≡ o → IsConversation (spoken_at acts o) (acts_of name (record_of acts))
by_place acts done does name None is = all_said acts done does name ∙ ap (left_at acts) is
by_place acts done does name (Some place) is = by_begun acts done does name place is (standing_at acts place).begun refl

pub conversations : (acts : List Act) → AreDone acts → AgentsDo acts → ConversationsAre acts
conversations acts done does name = by_place acts done does name (place_of acts name) refl

-- ---- scripts

pub all_legal : (script : List ℕ) → AgentsDo (play script).acts → IsLegal (reverse (world script)) (setting (play script).acts)
all_legal script does =
    let acts = (play script).acts in
    legal acts (played script) (conversations acts (played script) does)
