-- No line of a round of a script that is made of a number is refused.
use Rattle.std.proofs.Common.{◌≡◌, ℕ, suc, ◌^◌, ◌≤◌, ◌<◌, List, [], ◌∷◌, ◌++◌, map, codes, length, Bool, true, false, eqb, Option, Some, None, Ok, refl, sym, ap, subst, ◌∙◌, arith, inl, inr}
use Rattle.std.specs.Prelude.{slice_get}
use Rattle.std.specs.Fmt.{decimal}
use Rattle.std.specs.Str.{bytes_eq}
use Rattle.std.specs.Result.{result_unwrap_or}
use Rattle.std.proofs.lemmas.Bool.{and_parts, cases_Bool}
use Rattle.hex.specs.Hex.{decode_of, decode_pairs}
use Rattle.sealing.specs.Request.{request_text}
use Rattle.key_lists.specs.Lists.{KeyList}
use Rattle.talks.specs.declared.answer.RpcAnswer.{RpcAnswer}
use Rattle.talks.specs.Standings.{Kept, Resting, Standing}
use Rattle.agent_history.specs.Conversations.{fits}
use Rattle.agent_history.specs.Histories.{History}
use Rattle.auth_server.specs.Requests.{kind_of}
use Rattle.complete_logins.proofs.LoginLaws.{question}
use Rattle.world_scripts.specs.Lines.{ScriptLine, is_formed}
use Rattle.world_scripts.specs.Pieces.{number_in}
use Rattle.world_scripts.specs.Reading.{line_of}
use Rattle.world_scripts.specs.Scripts.{Numbered}
use Rattle.world_scripts.specs.declared.round.Kind.TheVariants.{Replayed}
use Rattle.world_scripts.specs.Rounds as rounds
use Rattle.world_scripts.specs.Rounds.{answering, challenging, client_of, client_tuple, ending, middle, name, proof_of, recorded, round_lines, server_of, server_tuple, session_of, starting, zeros}
use Rattle.world_scripts.proofs.NumberLemmas.{number_again}
use Rattle.world_history.specs.Acts.{Act, Talk, has_name}
use Rattle.world_history.specs.Scripts.{act_of, go_on, is_unfit, judged, misnamed, on_conv, plays}
use Rattle.world_history.specs.Talking.{Asks, gets, gives, starts}
use Rattle.world_history.specs.Talking as talking
use Rattle.world_history.specs.Turns.{asks}
use Rattle.world_history.specs.Worlds.{history, messages}
use Rattle.world_promises.specs.Conditions.{MayFollow}
use Rattle.world_promises.proofs.DrivenSeats.{Rests}
use Rattle.world_promises.proofs.DrivenTurns.{Sits, carried_among, told_body, told_rests}
use Rattle.world_promises.proofs.MadeLines.{IsAt, IsPlain, Net, OnTurn, agent_on, fit_line, on_known, told_on}
use Rattle.world_promises.proofs.PlayLaws.{judged_by}
use Rattle.world_promises.proofs.RecordLaws.{out_in}
use Rattle.world_promises.proofs.RunLemmas.{same_name}
use Rattle.world_promises.proofs.SkTalks.{Words, ann_entry, made_login, one_key, srv_entry}

-- ---- lines that pass

abbrev pub AllFormed : List ScriptLine → Type 0
AllFormed [] = Unit {0}
AllFormed (line ∷ more) = (is_formed line ≡ true) × AllFormed more

abbrev pub read_of : List Numbered → List (Option ScriptLine)
read_of lines = map (λ (n : Numbered). line_of n.text) lines

-- whatever is read as these lines, none of it is refused behind some acts
pub Passes : List Act → List ScriptLine → Type 0
Passes acts said = (lines : List Numbered) → read_of lines ≡ map Some said → (plays acts lines).refused ≡ None

pub one : (acts : List Act) (line : ScriptLine) (act : Act) (said : List ScriptLine) → is_formed line ≡ true → judged acts (Some line) ≡ Ok act → (MayFollow acts act → Passes (act ∷ acts) said) → Passes acts (line ∷ said)
unfolding Passes
one acts line act said formed is next [] e = absurd (let no_way : [] ≡ Some line ∷ map Some said = e in cc)
one acts line act said formed is next (n ∷ more) e =
    let here : line_of n.text ≡ Some line = cc in
    let rest : read_of more ≡ map Some said = cc in
    let may = judged_by acts (Some line) act (λ other so. let same : line ≡ other = cc in subst (λ x. is_formed x ≡ true) same formed) is in
    subst (λ r. (go_on acts n.number r (λ done. plays done more)).refused ≡ None) (sym (ap (judged acts) here ∙ is)) (next may more rest)

pub nothing_left : (acts : List Act) → Passes acts []
unfolding Passes
nothing_left acts [] e = refl
nothing_left acts (n ∷ more) e = absurd (let no_way : line_of n.text ∷ read_of more ≡ [] = e in cc)

pub lines_pass : (acts : List Act) (said : List ScriptLine) → Passes acts said → (lines : List Numbered) → read_of lines ≡ map Some said → (plays acts lines).refused ≡ None
unfolding Passes
lines_pass acts said passes lines e = passes lines e

-- ---- a request of one of two conversations

module _ (acts : List Act) (m : List (List ℕ)) (open_now : List Talk) (given : List (List ℕ)) (unasked left : ℕ) (net : Net acts m open_now given unasked (suc left)) (conv node other : List ℕ) (at : IsAt acts conv node) (apart : bytes_eq (agent_on node) (agent_on other) ≡ false) (Q : History → Type 0) (q : Q (history acts (agent_on other)))
    (n : ℕ) (keys : KeyList) (s : Standing) (sits : Sits n keys s (history acts (agent_on node))) (rests : s.phase ≡ Resting) (said : List ScriptLine) where
  pub told : (line : ScriptLine) (act : Act) (what : Asks) → is_formed line ≡ true → OnTurn acts act conv (λ fid. asks conv fid what) → IsPlain acts act → misnamed acts line ≡ on_conv acts conv → act_of acts (messages acts) line ≡ Some act → is_unfit acts act ≡ false → length (talking.request_text what) ≤ 4096
      → (now : Standing) (answer : RpcAnswer) (fit : Bool) (later : List (List ℕ)) → carried_among keys s.begun what ≡ now → now.phase ≡ Kept answer → fits 8192 answer ≡ fit → m ++ out_in (told_body fit answer) ≡ later
      → (Net (act ∷ acts) later open_now given unasked left → Sits n keys (told_rests fit now) (history (act ∷ acts) (agent_on node)) → Q (history (act ∷ acts) (agent_on other)) → Passes (act ∷ acts) said) → Passes acts (line ∷ said)
  told line act what formed on plain names acts_so fit_so short now answer fit later is kept fits_so more next =
      let t = told_on acts m open_now given unasked left net act plain conv node at what on short n keys s sits rests now answer fit is kept fits_so in
      one acts line act said formed (fit_line acts line act (names ∙ on_known acts conv _ at.talk) acts_so fit_so)
      (λ may. next (subst (λ xs. Net (act ∷ acts) xs open_now given unasked left) more (t.done.net may)) t.sits (subst Q (sym (t.done.others (agent_on other) apart)) q))

-- ---- a round

pub short_text : (text : List ℕ) → length text ≤ 4000 → length (codes "write " ++ text) ≤ 4096
short_text text short = omega (arith, short)

pub client_text : client_tuple ≡ codes "proto=p9sk1 role=client"
unfolding client_tuple
client_text = refl

pub server_text : server_tuple ≡ codes "proto=p9sk1 role=server"
unfolding server_tuple
server_text = refl

pub request_kind : (w : Words) → kind_of (request_text (question (made_login w))) ≡ 1
unfolding request_text
request_kind w = refl

zeros_long : length (result_unwrap_or (decode_of zeros) []) ≡ 85
unfolding decode_pairs
zeros_long = refl

pub zeros_short : length (result_unwrap_or (decode_of zeros) []) ≤ 4000
zeros_short = omega (arith, zeros_long)

-- names of other rounds are others
same_letters : (letter other a b : ℕ) → bytes_eq (name other a) (name letter b) ≡ true → a < 2 ^ 64 → b < 2 ^ 64 → a ≡ b
same_letters letter other a b same few less =
    let digits : decimal a ≡ decimal b = same_name (decimal a) (decimal b) (and_parts (eqb other letter) (bytes_eq (decimal a) (decimal b)) same).1 in
    sym (number_again a few).1 ∙ (ap number_in digits ∙ (number_again b less).1)

pub other_round : (letter other a b : ℕ) → a < b → b < 2 ^ 64 → bytes_eq (name other a) (name letter b) ≡ false
other_round letter other a b before few = elim (cases_Bool (bytes_eq (name other a) (name letter b))) [
  | inl same ↦ absurd (omega (arith, before, same_letters letter other a b same (omega (arith, before, few)) few))
  | inr differs ↦ differs
]

abbrev pub IsBefore : ℕ → List (List ℕ) → Type 0
IsBefore round given = (letter later : ℕ) → round ≤ later → later < 2 ^ 64 → has_name (name letter later) given ≡ false

pub record Earlier (m : List (List ℕ)) (n : ℕ) : Type 0 where
  pub bytes : List ℕ
  pub is : slice_get m n ≡ Some bytes
  pub short : length bytes ≤ 4000

-- between two rounds, where the first message of the one before and the next one's have these numbers
pub record Between (round before first : ℕ) (acts : List Act) (left : ℕ) : Type 0 where
  pub m : List (List ℕ)
  pub given : List (List ℕ)
  pub net : Net acts m [] given round left
  pub new : IsBefore round given
  pub long : length m ≡ first
  pub ka : ℕ
  pub kb : ℕ
  pub a : Rests ka (one_key ann_entry) (history acts (agent_on (codes "a")))
  pub b : Rests kb (one_key srv_entry) (history acts (agent_on (codes "b")))
  pub earlier : rounds.kind_of round ≡ Replayed → Earlier m (proof_of before)
