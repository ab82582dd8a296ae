-- A message that a conversation gives in a run stands in its history as a message of that conversation.
use Rattle.std.proofs.Common.{◌≡◌, ℕ, List, [], ◌∷◌, ◌++◌, append_assoc, length, map, Some, Bool, refl, sym, ap, ◌∙◌}
use Rattle.symbolic_runs.specs.Trees.{Tree, plain}
use Rattle.symbolic_runs.specs.Spellings.{Atoms}
use Rattle.wire_histories.specs.declared.step.Step.{Step}
use Rattle.wire_histories.specs.declared.step.Step.TheVariants.{Start, Out, In, Ask, Heard, Unheard, Accept, Fail, Reply, Refused, AsGot, AsGave, AsEnd, Restart, Reload}
use Rattle.symbolic_runs.specs.Moves.{Role, Move, gives, Own}
use Rattle.symbolic_runs.specs.Runs.{Run, moves, moves_of, serves, given as labels_given}
use Rattle.symbolic_runs.specs.Places.{Stands}
use Rattle.symbolic_runs.specs.Sessions.{Deed}
use Rattle.wire_histories.specs.Histories.{History, Act, replied, gave, took, asked, answered, unanswered, accepted, failed}
use Rattle.clean_runs.specs.Labels.{dealt, requests_in, started_as}
use Rattle.clean_runs.specs.Runs.{deeds_by, deeds_for_deal, events_of, number_of, session_number}
use Rattle.clean_runs.proofs.Bridge.{Case, SessionsGo, acts_at, events_are, one_more, run, setting}
use Rattle.clean_runs.proofs.Follows.{Follows, accepts_it, asks_it, chooses, events_with, fails_so, gives_it, hears_it, hears_none, takes_it, takes_none}
use Rattle.clean_runs.proofs.Numbers.{number_is}
use Rattle.clean_runs.proofs.Steps.{Does, accept_does, ask_does, fail_does, heard_does, in_does, out_does, unheard_does}
use Rattle.clean_runs.specs.Agreement.{Happens, gives_labels, moves_in, plays}
use Rattle.clean_runs.proofs.Places.{Plays, further_in, moves_are, plays_by, plays_in, stands_at, step_at}

-- the conversation of events that are one message
number_of_gift : (atoms : Atoms) (own : Own) (role : Role) (before : List Move) (choosing : Bool) (act : Act) (label : Tree) (ms : List Move) (number k : ℕ) (t : Tree) → Follows atoms own role before choosing act label ms → events_with number choosing act ms ≡ moves k (gives t) ∷ [] → (number ≡ k) × ((b : List ℕ) × (act ≡ gave b))
number_of_gift atoms own role before choosing act label ms number k t (chooses b none) is = absurd (cc)
number_of_gift atoms own role before choosing act label ms number k t (gives_it b u row spells) is = ((let same : number ≡ k = cc in same), (b, refl))
number_of_gift atoms own role before choosing act label ms number k t (takes_it b row) is = absurd (cc)
number_of_gift atoms own role before choosing act label ms number k t (takes_none b) is = absurd (cc)
number_of_gift atoms own role before choosing act label ms number k t (asks_it b u row spells) is = absurd (cc)
number_of_gift atoms own role before choosing act label ms number k t (hears_it b row) is = absurd (cc)
number_of_gift atoms own role before choosing act label ms number k t hears_none is = absurd (cc)
number_of_gift atoms own role before choosing act label ms number k t (accepts_it cuid suid field says row) is = absurd (cc)
number_of_gift atoms own role before choosing act label ms number k t (fails_so cause) is = absurd (cc)

served_none : (session k : ℕ) (ds : List Deed) (t : Tree) → map (serves session) ds ≡ moves k (gives t) ∷ [] → ⊥
served_none session k [] t is = absurd (cc)
served_none session k (d ∷ ds) t is = absurd (cc)

-- what a conversation gives at a step
pub record Gave (c : Case) (past : History) (step : Step) (k : ℕ) : Type 0 where
  pub message : ℕ
  pub conv : List ℕ
  pub b : List ℕ
  pub step_is : step ≡ Out message conv b
  pub started : started_as conv past ≡ Some k

act_gives : (c : Case) (later past : History) (step : Step) (conv : List ℕ) (act : Act) (k : ℕ) (t : Tree) → Does conv act step → c.history ≡ later ++ step ∷ past → events_of (setting c) c.l past step ≡ moves k (gives t) ∷ [] → (started_as conv past ≡ Some k) × ((b : List ℕ) × (act ≡ gave b))
act_gives c later past step conv act k t d place is =
    let at = acts_at c later past step conv act d place in
    let same = number_of_gift c.atoms _ _ _ _ act _ _ at.number k t at.follows (sym (events_are c past step conv act at.number d at.started) ∙ is) in
    (at.started ∙ ap Some same.0, same.1)

-- a step at which a conversation does something else gives nothing
none_given : (c : Case) (later past : History) (step : Step) (conv : List ℕ) (act : Act) (k : ℕ) (t : Tree) → Does conv act step → c.history ≡ later ++ step ∷ past → events_of (setting c) c.l past step ≡ moves k (gives t) ∷ [] → ((b : List ℕ) → act ≡ gave b → ⊥) → ⊥
none_given c later past step conv act k t d place is other = let g = act_gives c later past step conv act k t d place is in other g.1.0 g.1.1

pub gave_at : (c : Case) (later past : History) (step : Step) (k : ℕ) (t : Tree) → c.history ≡ later ++ step ∷ past → events_of (setting c) c.l past step ≡ moves k (gives t) ∷ [] → Gave c past step k
gave_at c later past (Start conv p r w) k t place is = absurd (cc)
gave_at c later past (Out n conv b) k t place is = record { message = n; conv = conv; b = b; step_is = refl; started = (act_gives c later past (Out n conv b) conv (gave b) k t (out_does n conv b) place is).0 }
gave_at c later past (In conv b) k t place is = absurd (none_given c later past (In conv b) conv (took b) k t (in_does conv b) place is (λ x e. cc))
gave_at c later past (Ask n conv b) k t place is = absurd (none_given c later past (Ask n conv b) conv (asked b) k t (ask_does n conv b) place is (λ x e. cc))
gave_at c later past (Heard conv b) k t place is = absurd (none_given c later past (Heard conv b) conv (answered b) k t (heard_does conv b) place is (λ x e. cc))
gave_at c later past (Unheard conv) k t place is = absurd (none_given c later past (Unheard conv) conv unanswered k t (unheard_does conv) place is (λ x e. cc))
gave_at c later past (Accept conv cuid suid) k t place is = absurd (none_given c later past (Accept conv cuid suid) conv (accepted cuid suid) k t (accept_does conv cuid suid) place is (λ x e. cc))
gave_at c later past (Fail conv cause) k t place is = absurd (none_given c later past (Fail conv cause) conv (failed cause) k t (fail_does conv cause) place is (λ x e. cc))
gave_at c later past (Reply conv answer) k t place is = absurd (cc)
gave_at c later past (Refused node answer) k t place is = absurd (cc)
gave_at c later past (AsGot session b words) k t place is = absurd (cc)
gave_at c later past (AsGave n session b) k t place is = absurd (served_none (session_number session past) k (deeds_for_deal (deeds_by (dealt c.l session past)) (dealt c.l session past) (replied b) (requests_in past) (c.l.label (length past))) t is)
gave_at c later past (AsEnd session) k t place is = absurd (cc)
gave_at c later past (Restart node) k t place is = absurd (cc)
gave_at c later past Reload k t place is = absurd (cc)

-- ---- a message of the run, in the history

pub record Given (c : Case) (past : History) (k : ℕ) (gone : Run) (t : Tree) : Type 0 where
  pub conv : List ℕ
  pub gave : History
  pub message : ℕ
  pub b : List ℕ
  pub happens : Happens past gave (Out message conv b)
  pub number : number_of conv gave ≡ k
  pub playing : Plays c conv ((setting c).role k) gave
  pub plays_so : plays conv gave ≡ Some ((setting c).role k)
  pub moves_so : moves_in c.l ((setting c).role k) conv gave ≡ moves_of k gone
  pub labels : gives_labels c.history c.z c.l gave (Out message conv b) ≡ t ∷ []

pub given_in : (c : Case) → SessionsGo c → (past later : History) → c.history ≡ later ++ past → (k : ℕ) (gone : Run) (t : Tree) → Stands (run c past) gone (moves k (gives t)) → Given c past k gone t
given_in c sessions past later place k gone t stands =
    let at = step_at c sessions past later place stands.later gone (moves k (gives t)) stands.place in
    let whole : c.history ≡ (later ++ at.happens.later) ++ at.step ∷ at.earlier = place ∙ ap (λ xs. later ++ xs) at.happens.place ∙ sym (append_assoc later at.happens.later (at.step ∷ at.earlier)) in
    let g = gave_at c (later ++ at.happens.later) at.earlier at.step k t whole at.events in
    let behind = (later ++ at.happens.later) ++ at.step ∷ [] in
    let rest : c.history ≡ behind ++ at.earlier = one_more c (later ++ at.happens.later) at.earlier at.step whole in
    let plays_so = plays_by c g.conv at.earlier behind rest k g.started in
    let p = plays_in c g.conv ((setting c).role k) at.earlier behind rest plays_so in
    let number = number_is at.earlier g.conv k g.started in
    record {
      conv = g.conv;
      gave = at.earlier;
      message = g.message;
      b = g.b;
      happens = record { later = at.happens.later; place = at.happens.place ∙ ap (λ s. at.happens.later ++ s ∷ at.earlier) g.step_is };
      number = number;
      playing = p;
      plays_so = plays_so;
      moves_so = sym (moves_are c g.conv ((setting c).role k) at.earlier behind rest p) ∙ ap (λ n. moves_of n (run c at.earlier)) number ∙ ap (moves_of k) at.before;
      labels = ap (λ s. labels_given (setting c) (events_of (setting c) c.l at.earlier s)) (sym g.step_is) ∙ ap (labels_given (setting c)) at.events;
    }

-- ---- a message of the history, in the run

gift_label : (c : Case) (atoms : Atoms) (own : Own) (role : Role) (before : List Move) (choosing : Bool) (b : List ℕ) (label : Tree) (ms : List Move) (number : ℕ) (t : Tree) → Follows atoms own role before choosing (gave b) label ms → ((x : List ℕ) → t ≡ plain x → ⊥) → labels_given (setting c) (events_with number choosing (gave b) ms) ≡ t ∷ [] → events_with number choosing (gave b) ms ≡ moves number (gives t) ∷ []
gift_label c atoms own role before choosing b label ms number t (chooses x none) secret is = absurd (let plain_is : plain x ≡ t = cc in secret x (sym plain_is))
gift_label c atoms own role before choosing b label ms number t (gives_it x u row spells) secret is = let same : u ≡ t = cc in ap (λ u. moves number (gives u) ∷ []) same

pub given_out : (c : Case) (whole later gone : History) (conv b : List ℕ) (message : ℕ) (t : Tree) → c.history ≡ later ++ whole → Happens whole gone (Out message conv b) → ((x : List ℕ) → t ≡ plain x → ⊥) → gives_labels c.history c.z c.l gone (Out message conv b) ≡ t ∷ [] → Stands (run c whole) (run c gone) (moves (number_of conv gone) (gives t))
given_out c whole later gone conv b message t place happens secret is =
    let here = further_in later place happens in
    let at = acts_at c here.later gone (Out message conv b) conv (gave b) (out_does message conv b) here.place in
    let events = events_are c gone (Out message conv b) conv (gave b) at.number (out_does message conv b) at.started in
    let number = number_is gone conv at.number at.started in
    let so = gift_label c c.atoms _ _ _ _ b _ _ at.number t at.follows secret (ap (labels_given (setting c)) (sym events) ∙ is) in
    stands_at c whole gone (Out message conv b) (moves (number_of conv gone) (gives t)) happens (events ∙ so ∙ ap (λ n. moves n (gives t) ∷ []) (sym number))
