-- The acts of a script fit one behind the other, and are spelled as its lines spell them.
use Rattle.std.proofs.Common.{◌≡◌, ℕ, ◌<◌, List, [], ◌∷◌, All, length, Option, Some, None, Result, Ok, Err, Bool, true, false, ◌==◌, ◌&&◌, nat_lt, option_map, if◌then◌else◌, refl, subst}
use Rattle.std.specs.List.{list_all}
use Rattle.std.proofs.lemmas.Bool.{and_parts, eqb-true, ltb-true}
use Rattle.std.proofs.lemmas.List.Elements.{All-cons, All-nil}
use Rattle.wire_base.specs.Texts.{is_text}
use Rattle.attr_tuples.specs.Forms.{is_dom}
use Rattle.sealing.specs.Fitting.{IsBlock}
use Rattle.world_scripts.specs.Lines as l
use Rattle.world_scripts.specs.Lines.{ScriptLine, is_formed, is_name, is_random}
use Rattle.world_scripts.specs.Pieces.{are_pieces}
use Rattle.world_scripts.specs.Reading.{line_of}
use Rattle.world_scripts.specs.Scripts.{Numbered, script_lines}
use Rattle.world_scripts.proofs.LineLemmas.{line_parts}
use Rattle.auth_program.specs.declared.cause.ScriptCause.{ScriptCause}
use Rattle.auth_program.specs.declared.cause.ScriptCause.TheVariants.{BadLine, UnknownNode}
use Rattle.world_history.specs.Acts.{Act, Domain, KeyLine, SpeakLine, Reloaded, Made, Restarted, Told, Opened, Started, Got, Given, Answered, Unanswered, Asked, Closed, is_node}
use Rattle.world_history.specs.Scripts.{Played, act_of, call_now, fitting, go_on, is_unfit, judged, misnamed, named, play, plays, spelled}
use Rattle.world_history.specs.Worlds.{messages}
use Rattle.world_promises.specs.Conditions.{AreDone, IsNamed, IsSpelled, MayFollow}

all_small : (bytes : List ℕ) → list_all (λ b. nat_lt b 256) bytes ≡ true → All (λ b. b < 256) bytes
all_small [] small = All-nil (λ b. b < 256)
all_small (b ∷ bytes) small =
    let parts = and_parts (nat_lt b 256) (list_all (λ b. nat_lt b 256) bytes) small in
    All-cons (λ b. b < 256) b bytes (ltb-true b 256 parts.0) (all_small bytes parts.1)

pub random_block : (bytes : List ℕ) → is_random bytes ≡ true → IsBlock 8 bytes
random_block bytes random =
    let parts = and_parts (length bytes == 8) (list_all (λ b. nat_lt b 256) bytes) random in
    record { whole = eqb-true (length bytes) 8 parts.0; bytes = all_small bytes parts.1 }

three_blocks : (first second third : List ℕ) → IsBlock 8 first → IsBlock 8 second → IsBlock 8 third → All (IsBlock 8) (first ∷ second ∷ third ∷ [])
three_blocks first second third a b c = All-cons (IsBlock 8) first (second ∷ third ∷ []) a (All-cons (IsBlock 8) second (third ∷ []) b (All-cons (IsBlock 8) third [] c (All-nil (IsBlock 8))))

-- what is asked of an act but that it fits
abbrev IsWell : List Act → Act → Type 0
IsWell acts act = IsSpelled act × IsNamed acts act

-- what an act may be that a line with bytes makes
by_bytes : (acts : List Act) (make : List ℕ → Act) (bytes : Option (List ℕ)) (act : Act) → ((given : List ℕ) → IsWell acts (make given)) → option_map make bytes ≡ Some act → IsWell acts act
by_bytes acts make None act each is = cc is
by_bytes acts make (Some given) act each is = subst (IsWell acts) (cc is) (each given)

same_act : (acts : List Act) (made act : Act) → Some made ≡ Some act → IsWell acts made → IsWell acts act
same_act acts made act is so = subst (IsWell acts) (cc is) so

node_named : (b : Bool) → (if b then None else Some UnknownNode) ≡ None → b ≡ true
node_named true none = refl
node_named false none = cc none

well_so : (acts : List Act) (recorded : List (List ℕ)) (line : ScriptLine) (act : Act) → is_formed line ≡ true → misnamed acts line ≡ None → act_of acts recorded line ≡ Some act → IsWell acts act
well_so acts recorded (l.Dom dom) act formed named_so is = same_act acts (Domain dom) act is ((and_parts (is_text dom) (is_dom dom) formed).0, tt)
well_so acts recorded (l.AsKey tuple) act formed named_so is = same_act acts (KeyLine tuple) act is (tt, tt)
well_so acts recorded (l.AsSpeak tuple) act formed named_so is = same_act acts (SpeakLine tuple) act is (tt, tt)
well_so acts recorded (l.Node node) act formed named_so is = same_act acts (Made node) act is (tt, tt)
well_so acts recorded l.Reload act formed named_so is = same_act acts Reloaded act is (tt, tt)
well_so acts recorded (l.Restart node) act formed named_so is = same_act acts (Restarted node) act is (tt, node_named (is_node acts node) named_so)
well_so acts recorded (l.Ctl node line) act formed named_so is = same_act acts (Told node line) act is (tt, node_named (is_node acts node) named_so)
well_so acts recorded (l.Open node conv) act formed named_so is = same_act acts (Opened node conv) act is (tt, node_named (is_node acts node) named_so)
well_so acts recorded (l.Start conv random tuple) act formed named_so is = same_act acts (Started conv random tuple) act is (random_block random (and_parts (is_name conv) (is_random random) formed).1, tt)
well_so acts recorded (l.Read conv) act formed named_so is = same_act acts (Got conv) act is (tt, tt)
well_so acts recorded (l.Write conv bytes) act formed named_so is = by_bytes acts (λ given. Given conv given) (spelled recorded bytes) act (λ given. (tt, tt)) is
well_so acts recorded (l.Answer conv bytes) act formed named_so is = by_bytes acts (λ given. Answered conv given (call_now acts conv)) (spelled recorded bytes) act (λ given. (tt, refl)) is
well_so acts recorded (l.NoAnswer conv) act formed named_so is = same_act acts (Unanswered conv (call_now acts conv)) act is (tt, refl)
well_so acts recorded (l.AsGive session bytes first second third) act formed named_so is =
    let behind = (and_parts (is_name session) (are_pieces bytes && (is_random first && (is_random second && is_random third))) formed).1 in
    let words = (and_parts (are_pieces bytes) (is_random first && (is_random second && is_random third)) behind).1 in
    let more = and_parts (is_random first) (is_random second && is_random third) words in
    let last = and_parts (is_random second) (is_random third) more.1 in
    by_bytes acts (λ given. Asked session given (first ∷ second ∷ third ∷ [])) (spelled recorded bytes) act (λ given. ((refl, three_blocks first second third (random_block first more.0) (random_block second last.0) (random_block third last.1)), tt)) is
well_so acts recorded (l.Close conv) act formed named_so is = same_act acts (Closed conv) act is (tt, tt)

-- an act that is judged to fit
fit_by : (acts : List Act) (made act : Act) (unfit : Bool) (bad : ScriptCause) → is_unfit acts made ≡ unfit → IsWell acts made → (if unfit then Err bad else Ok made) ≡ Ok act → MayFollow acts act
fit_by acts made act true bad is so judged = cc judged
fit_by acts made act false bad is so judged =
    let same : made ≡ act = cc judged in
    subst (MayFollow acts) same (record { fits = is; spelled = so.0; named = so.1 })

fits_by : (acts : List Act) (o : Option Act) (act : Act) → ((made : Act) → o ≡ Some made → IsWell acts made) → fitting acts o ≡ Ok act → MayFollow acts act
fits_by acts None act each is = cc is
fits_by acts (Some made) act each is = fit_by acts made act (is_unfit acts made) BadLine refl (each made refl) is

named_by : (acts : List Act) (line : ScriptLine) (cause : Option ScriptCause) (act : Act) → is_formed line ≡ true → misnamed acts line ≡ cause → named acts line cause ≡ Ok act → MayFollow acts act
named_by acts line (Some cause) act formed names is = cc is
named_by acts line None act formed names is = fits_by acts (act_of acts (messages acts) line) act (λ made so. well_so acts (messages acts) line made formed names so) is

pub judged_by : (acts : List Act) (o : Option ScriptLine) (act : Act) → ((line : ScriptLine) → o ≡ Some line → is_formed line ≡ true) → judged acts o ≡ Ok act → MayFollow acts act
judged_by acts None act each is = cc is
judged_by acts (Some line) act each is = named_by acts line (misnamed acts line) act (each line refl) refl is

-- lines behind acts that are so
goes_on : (acts : List Act) (number : ℕ) (result : Result Act ScriptCause) (next : List Act → Played) → AreDone acts → ((act : Act) → result ≡ Ok act → AreDone (next (act ∷ acts)).acts) → AreDone (go_on acts number result next).acts
goes_on acts number (Err cause) next done each = done
goes_on acts number (Ok act) next done each = each act refl

behind : (acts : List Act) (lines : List Numbered) → AreDone acts → AreDone (plays acts lines).acts
behind acts [] done = done
behind acts (line ∷ more) done =
    goes_on acts line.number (judged acts (line_of line.text)) (λ next. plays next more) done (λ act is.
    behind (act ∷ acts) more (judged_by acts (line_of line.text) act (λ read so. (line_parts line.text read so).formed) is, done))

pub played : (script : List ℕ) → AreDone (play script).acts
unfolding play
played script = behind [] (script_lines script) tt
