-- The names in a script that is made of a number, line by line.
use Rattle.std.proofs.Common.{◌≡◌, ◌≤◌, ◌<◌, ◌*◌, ◌^◌, ℕ, List, [], ◌∷◌, ◌++◌, codes, map, filter, length, Bool, true, false, not, ◌&&◌, ◌||◌, Option, Some, None, Result, Ok, Err, refl, sym, ap, subst, ◌∙◌, arith, inl, inr, if◌then◌else◌}
use Rattle.std.specs.Prelude.{is_some, option_map, find}
use Rattle.std.specs.Str.{bytes_eq}
use Rattle.std.proofs.lemmas.Bool.{and_parts, cases_Bool, cond-true, cond-false, not_from_true, true≢false}
use Rattle.std.proofs.lemmas.List.{map-append}
use Rattle.auth_program.specs.declared.cause.ScriptCause.{ScriptCause}
use Rattle.auth_program.specs.declared.cause.ScriptCause.TheVariants.{BadLine, UnknownNode, UnknownConv, NoSuchMessage}
use Rattle.attr_tuples.specs.Grammar.{attr_of, tuple_of, words_from}
use Rattle.std.specs.Str.{chars, is_utf8}
use Rattle.std.specs.Str.Lossy.{utf8_valid_len}
use lib.Utf8.{encode}
use Rattle.wire_base.specs.Texts.{is_text}
use Rattle.attr_tuples.specs.Lines.{line_len}
use Rattle.attr_tuples.specs.Matching.{value_of}
use Rattle.attr_tuples.specs.Words.{first_word, gap_len}
use Rattle.auth_tables.specs.Lines.{first_bad, tuple_in}
use Rattle.auth_tables.specs.Keys.{key_in}
use Rattle.world_scripts.specs.Lines.{ScriptLine, Dom, AsKey, AsSpeak, Reload, Node, Restart, Ctl, Open, Start, Read, Write, Answer, NoAnswer, AsGive, Close}
use Rattle.world_scripts.specs.Reading.{line_of}
use Rattle.world_scripts.specs.Scripts.{Numbered, script_lines}
use Rattle.world_scripts.specs.Draws.{draws, generator_of}
use Rattle.world_scripts.specs.Generated.{gen_lines, gen_text, opening, rounds_from}
use Rattle.world_scripts.proofs.MadeLemmas.{made_read}
use Rattle.world_scripts.proofs.NameLemmas.{Known, all_known, behind, between, is_one, knows, made_known, without}
use Rattle.world_history.specs.Acts.{Act, Talk, KeyLine, Made, Told, Opened, Started, Got, Given, Answered, Unanswered, Asked, Closed, has_name, is_node, nodes, opened_names, talk_of, talks}
use Rattle.world_history.specs.Scripts.{Played, act_of, call_now, fitting, go_on, is_unfit, judged, misnamed, named, on_conv, on_node, play, plays, spelled}
use Rattle.world_history.specs.Worlds.{messages}
use Rattle.world_history.specs.MadeNames.{MadeIsNamed, MayRefuse, hangs_on_others}

-- ---- what acts and names agree on

record Agrees (acts : List Act) (k : Known) : Type 0 where
  nodes : nodes acts ≡ k.nodes
  given : opened_names acts ≡ k.given
  talking : map (λ (t : Talk). t.conv) (talks acts) ≡ k.talking

-- a conversation is open by its name
is_talking : (conv : List ℕ) (open_now : List Talk) → is_some (find (λ (t : Talk). bytes_eq t.conv conv) open_now) ≡ is_one conv (map (λ (t : Talk). t.conv) open_now)
is_talking conv [] = refl
is_talking conv (t ∷ more) = by_name (bytes_eq t.conv conv) (is_talking conv more)
  where
    by_name : (same : Bool) → is_some (find (λ (t : Talk). bytes_eq t.conv conv) more) ≡ is_one conv (map (λ (t : Talk). t.conv) more)
        → is_some (if same then Some t else find (λ (t : Talk). bytes_eq t.conv conv) more) ≡ (same || is_one conv (map (λ (t : Talk). t.conv) more))
    by_name true h = refl
    by_name false h = h

-- and is closed by it
is_closed : (conv : List ℕ) (open_now : List Talk) → map (λ (t : Talk). t.conv) (filter (λ (t : Talk). not (bytes_eq t.conv conv)) open_now) ≡ without conv (map (λ (t : Talk). t.conv) open_now)
is_closed conv [] = refl
is_closed conv (t ∷ more) = by_name (not (bytes_eq t.conv conv)) (is_closed conv more)
  where
    by_name : (other : Bool) → map (λ (t : Talk). t.conv) (filter (λ (t : Talk). not (bytes_eq t.conv conv)) more) ≡ without conv (map (λ (t : Talk). t.conv) more)
        → map (λ (t : Talk). t.conv) (if other then t ∷ filter (λ (t : Talk). not (bytes_eq t.conv conv)) more else filter (λ (t : Talk). not (bytes_eq t.conv conv)) more)
        ≡ (if other then t.conv ∷ without conv (map (λ (t : Talk). t.conv) more) else without conv (map (λ (t : Talk). t.conv) more))
    by_name true h = ap (λ (names : List (List ℕ)). t.conv ∷ names) h
    by_name false h = h

-- ---- a line

-- what a line comes to: it may be refused, or is done, and the names are known that it leaves
abbrev LineSo : List Act → Known → Result Act ScriptCause → Type 0
LineSo acts k (Err cause) = MayRefuse acts cause
LineSo acts k (Ok act) = Agrees (act ∷ acts) k

-- an act is done, or can't be
fitted : (acts : List Act) (k : Known) (act : Act) → (is_unfit acts act ≡ true → hangs_on_others acts act ≡ true) → Agrees (act ∷ acts) k → LineSo acts k (fitting acts (Some act))
fitted acts k act hangs agrees = elim (cases_Bool (is_unfit acts act)) [
  | inl unfit ↦ subst (LineSo acts k) (sym (cond-true (is_unfit acts act) (Err BadLine) (Ok act) unfit)) (act, (hangs unfit, unfit))
  | inr fit ↦ subst (LineSo acts k) (sym (cond-false (is_unfit acts act) (Err BadLine) (Ok act) fit)) agrees
]

-- one whose bytes are spelled out of what is recorded
spelled_out : (acts : List Act) (k : Known) (does : List ℕ → Act) (o : Option (List ℕ)) → ((bytes : List ℕ) → hangs_on_others acts (does bytes) ≡ true) → ((bytes : List ℕ) → Agrees (does bytes ∷ acts) k) → LineSo acts k (fitting acts (option_map does o))
spelled_out acts k does None hangs agrees = tt
spelled_out acts k does (Some bytes) hangs agrees = fitted acts k (does bytes) (λ unfit. hangs bytes) (agrees bytes)

-- a line whose names are known
known_conv : (acts : List Act) (k : Known) (conv : List ℕ) → Agrees acts k → is_one conv k.talking ≡ true → on_conv acts conv ≡ None
known_conv acts k conv a h = cond-true (is_some (talk_of acts conv)) None (Some UnknownConv) (is_talking conv (talks acts) ∙ (ap (is_one conv) a.talking ∙ h))

known_node : (acts : List Act) (k : Known) (node : List ℕ) → Agrees acts k → is_one node k.nodes ≡ true → on_node acts node ≡ None
known_node acts k node a h = cond-true (is_node acts node) None (Some UnknownNode) (ap (is_one node) a.nodes ∙ h)

by_names : (acts : List Act) (k : Known) (line : ScriptLine) → misnamed acts line ≡ None → LineSo acts k (fitting acts (act_of acts (messages acts) line)) → LineSo acts k (judged acts (Some line))
by_names acts k line none h = subst (λ (o : Option ScriptCause). LineSo acts k (named acts line o)) (sym none) h

stays : (acts : List Act) (k : Known) (act : Act) → Agrees acts k → nodes (act ∷ acts) ≡ nodes acts → opened_names (act ∷ acts) ≡ opened_names acts → talks (act ∷ acts) ≡ talks acts → Agrees (act ∷ acts) k
stays acts k act a n o t = record { nodes = n ∙ a.nodes; given = o ∙ a.given; talking = ap (map (λ (t : Talk). t.conv)) t ∙ a.talking }

started_fits : (acts : List Act) (conv word tuple : List ℕ) → is_unfit acts (Started conv word tuple) ≡ false
unfolding is_unfit
started_fits acts conv word tuple = refl

got_fits : (acts : List Act) (conv : List ℕ) → is_unfit acts (Got conv) ≡ false
unfolding is_unfit
got_fits acts conv = refl

closed_fits : (acts : List Act) (conv : List ℕ) → is_unfit acts (Closed conv) ≡ false
unfolding is_unfit
closed_fits acts conv = refl

never : (acts : List Act) (act : Act) → is_unfit acts act ≡ false → is_unfit acts act ≡ true → hangs_on_others acts act ≡ true
never acts act fit unfit = absurd (true≢false (sym unfit ∙ fit))

line_goes : (acts : List Act) (k : Known) (line : ScriptLine) → knows k line ≡ true → Agrees acts k → LineSo acts (behind k line) (judged acts (Some line))
line_goes acts k (Dom dom) h a = absurd (true≢false (sym h))
line_goes acts k (AsKey tuple) h a = absurd (true≢false (sym h))
line_goes acts k (AsSpeak tuple) h a = absurd (true≢false (sym h))
line_goes acts k Reload h a = absurd (true≢false (sym h))
line_goes acts k (Node node) h a = absurd (true≢false (sym h))
line_goes acts k (Restart node) h a = absurd (true≢false (sym h))
line_goes acts k (Ctl node line) h a = absurd (true≢false (sym h))
line_goes acts k (Open node conv) h a =
    let both = and_parts (is_one node k.nodes) (not (is_one conv k.given)) h in
    by_names acts (behind k (Open node conv)) (Open node conv) (known_node acts k node a both.0)
    (fitted acts (behind k (Open node conv)) (Opened node conv) (λ unfit. ap (λ (names : List (List ℕ)). not (is_one conv names)) a.given ∙ both.1)
    (record {
      nodes = a.nodes;
      given = ap (λ (names : List (List ℕ)). conv ∷ names) a.given;
      talking = map-append (λ (t : Talk). t.conv) (talks acts) _ ∙ ap (λ (names : List (List ℕ)). names ++ conv ∷ []) a.talking;
    }))
line_goes acts k (Start conv word tuple) h a =
    by_names acts k (Start conv word tuple) (known_conv acts k conv a h) (fitted acts k (Started conv word tuple) (never acts (Started conv word tuple) (started_fits acts conv word tuple)) (stays acts k (Started conv word tuple) a refl refl refl))
line_goes acts k (Read conv) h a = by_names acts k (Read conv) (known_conv acts k conv a h) (fitted acts k (Got conv) (never acts (Got conv) (got_fits acts conv)) (stays acts k (Got conv) a refl refl refl))
line_goes acts k (Write conv pieces) h a =
    by_names acts k (Write conv pieces) (known_conv acts k conv a h) (spelled_out acts k (λ bytes. Given conv bytes) (spelled (messages acts) pieces) (λ bytes. refl) (λ bytes. stays acts k (Given conv bytes) a refl refl refl))
line_goes acts k (Answer conv pieces) h a =
    by_names acts k (Answer conv pieces) (known_conv acts k conv a h)
    (spelled_out acts k (λ bytes. Answered conv bytes (call_now acts conv)) (spelled (messages acts) pieces) (λ bytes. refl) (λ bytes. stays acts k (Answered conv bytes (call_now acts conv)) a refl refl refl))
line_goes acts k (NoAnswer conv) h a =
    by_names acts k (NoAnswer conv) (known_conv acts k conv a h) (fitted acts k (Unanswered conv (call_now acts conv)) (λ unfit. refl) (stays acts k (Unanswered conv (call_now acts conv)) a refl refl refl))
line_goes acts k (AsGive session pieces first second third) h a =
    by_names acts k (AsGive session pieces first second third) refl
    (spelled_out acts k (λ bytes. Asked session bytes (first ∷ second ∷ third ∷ [])) (spelled (messages acts) pieces) (λ bytes. refl) (λ bytes. stays acts k (Asked session bytes (first ∷ second ∷ third ∷ [])) a refl refl refl))
line_goes acts k (Close conv) h a =
    by_names acts (behind k (Close conv)) (Close conv) (known_conv acts k conv a h)
    (fitted acts (behind k (Close conv)) (Closed conv) (never acts (Closed conv) (closed_fits acts conv))
    (record { nodes = a.nodes; given = a.given; talking = is_closed conv (talks acts) ∙ ap (without conv) a.talking }))

-- ---- lines

abbrev RefusedSo : Played → Type 0
RefusedSo p = (number : ℕ) (cause : ScriptCause) → p.refused ≡ Some (number, cause) → MayRefuse p.acts cause

abbrev read_of : List Numbered → List (Option ScriptLine)
read_of lines = map (λ l. line_of l.text) lines

cause_same : (one other : ℕ × ScriptCause) → Some one ≡ Some other → one.1 ≡ other.1
cause_same one other h = let same : one ≡ other = cc in ap (λ (p : ℕ × ScriptCause). p.1) same

goes_on : (acts : List Act) (k : Known) (number : ℕ) (r : Result Act ScriptCause) (next : List Act → Played) → LineSo acts k r → ((act : Act) → r ≡ Ok act → Agrees (act ∷ acts) k → RefusedSo (next (act ∷ acts))) → RefusedSo (go_on acts number r next)
goes_on acts k number (Err cause) next h more = λ n other is. subst (MayRefuse acts) (cause_same (number, cause) (n, other) is) h
goes_on acts k number (Ok act) next h more = more act refl h

plays_named : (acts : List Act) (k : Known) (lines : List Numbered) (said : List ScriptLine) → read_of lines ≡ map Some said → all_known k said ≡ true → Agrees acts k → RefusedSo (plays acts lines)
plays_named acts k [] said is h a = λ n cause r. absurd (let no_way : None ≡ Some (n, cause) = r in cc)
plays_named acts k (line ∷ more) [] is h a = absurd (let no_way : line_of line.text ∷ read_of more ≡ [] = is in cc)
plays_named acts k (line ∷ more) (l ∷ said) is h a =
    let here : line_of line.text ≡ Some l = cc in
    let rest : read_of more ≡ map Some said = cc in
    let both = and_parts (knows k l) (all_known (behind k l) said) h in
    goes_on acts (behind k l) line.number (judged acts (line_of line.text)) (λ done. plays done more)
    (subst (λ (o : Option ScriptLine). LineSo acts (behind k l) (judged acts o)) (sym here) (line_goes acts k l both.0 a))
    (λ act done agrees. plays_named (act ∷ acts) (behind k l) more said rest both.1 agrees)

-- ---- the opening

one_done : (acts : List Act) (lines : List Numbered) (l : ScriptLine) (said : List ScriptLine) (act : Act) → read_of lines ≡ map Some (l ∷ said) → judged acts (Some l) ≡ Ok act
    → ((more : List Numbered) → read_of more ≡ map Some said → RefusedSo (plays (act ∷ acts) more)) → RefusedSo (plays acts lines)
one_done acts [] l said act is done next = absurd (let no_way : [] ≡ Some l ∷ map Some said = is in cc)
one_done acts (line ∷ more) l said act is done next =
    let here : line_of line.text ≡ Some l = cc in
    let rest : read_of more ≡ map Some said = cc in
    subst (λ (r : Result Act ScriptCause). RefusedSo (go_on acts line.number r (λ done. plays done more))) (sym (ap (judged acts) here ∙ done)) (next more rest)

abbrev behind_keys : List Act
behind_keys = KeyLine (codes "user=srv !password=srvpass") ∷ KeyLine (codes "user=ann !password=annpass") ∷ []

abbrev behind_nodes : List Act
behind_nodes = Made (codes "b") ∷ Made (codes "a") ∷ behind_keys

abbrev behind_opening : List Act
behind_opening = Told (codes "b") (codes "key proto=p9sk1 dom=x user=srv !password=srvpass") ∷ Told (codes "a") (codes "key proto=p9sk1 dom=x user=ann !password=annpass") ∷ behind_nodes

first_key : judged [] (Some (AsKey (codes "user=ann !password=annpass"))) ≡ Ok (KeyLine (codes "user=ann !password=annpass"))
unfolding is_unfit first_bad key_in tuple_in tuple_of words_from first_word gap_len attr_of value_of line_len is_text is_utf8 chars encode utf8_valid_len
first_key = refl

second_key : judged (KeyLine (codes "user=ann !password=annpass") ∷ []) (Some (AsKey (codes "user=srv !password=srvpass"))) ≡ Ok (KeyLine (codes "user=srv !password=srvpass"))
unfolding is_unfit first_bad key_in tuple_in tuple_of words_from first_word gap_len attr_of value_of line_len is_text is_utf8 chars encode utf8_valid_len
second_key = refl

first_node : judged behind_keys (Some (Node (codes "a"))) ≡ Ok (Made (codes "a"))
unfolding is_unfit
first_node = refl

second_node : judged (Made (codes "a") ∷ behind_keys) (Some (Node (codes "b"))) ≡ Ok (Made (codes "b"))
unfolding is_unfit
second_node = refl

first_told : judged behind_nodes (Some (Ctl (codes "a") (codes "key proto=p9sk1 dom=x user=ann !password=annpass"))) ≡ Ok (Told (codes "a") (codes "key proto=p9sk1 dom=x user=ann !password=annpass"))
unfolding is_unfit
first_told = refl

second_told : judged (Told (codes "a") (codes "key proto=p9sk1 dom=x user=ann !password=annpass") ∷ behind_nodes) (Some (Ctl (codes "b") (codes "key proto=p9sk1 dom=x user=srv !password=srvpass"))) ≡ Ok (Told (codes "b") (codes "key proto=p9sk1 dom=x user=srv !password=srvpass"))
unfolding is_unfit
second_told = refl

opened : Agrees behind_opening (between [])
opened = record { nodes = refl; given = refl; talking = refl }

abbrev rest_of : ℕ → ℕ → List ScriptLine
rest_of number rounds = rounds_from rounds 0 0 0 (draws (5 * rounds) (generator_of number))

-- the lines behind each of the opening
abbrev behind_five : ℕ → ℕ → List ScriptLine
behind_five number rounds = Ctl (codes "b") (codes "key proto=p9sk1 dom=x user=srv !password=srvpass") ∷ rest_of number rounds

abbrev behind_four : ℕ → ℕ → List ScriptLine
behind_four number rounds = Ctl (codes "a") (codes "key proto=p9sk1 dom=x user=ann !password=annpass") ∷ behind_five number rounds

abbrev behind_three : ℕ → ℕ → List ScriptLine
behind_three number rounds = Node (codes "b") ∷ behind_four number rounds

abbrev behind_two : ℕ → ℕ → List ScriptLine
behind_two number rounds = Node (codes "a") ∷ behind_three number rounds

abbrev behind_one : ℕ → ℕ → List ScriptLine
behind_one number rounds = AsKey (codes "user=srv !password=srvpass") ∷ behind_two number rounds

all_named : (number rounds : ℕ) → rounds ≤ 1000 → (lines : List Numbered) → read_of lines ≡ map Some (gen_lines number rounds) → RefusedSo (plays [] lines)
all_named number rounds few lines is =
    let small : rounds < 2 ^ 64 = omega (arith, few) in
    one_done [] lines (AsKey (codes "user=ann !password=annpass")) (behind_one number rounds) (KeyLine (codes "user=ann !password=annpass")) is first_key (λ one said_one.
    one_done (KeyLine (codes "user=ann !password=annpass") ∷ []) one (AsKey (codes "user=srv !password=srvpass")) (behind_two number rounds) (KeyLine (codes "user=srv !password=srvpass")) said_one second_key (λ two is_two.
    one_done behind_keys two (Node (codes "a")) (behind_three number rounds) (Made (codes "a")) is_two first_node (λ three is_three.
    one_done (Made (codes "a") ∷ behind_keys) three (Node (codes "b")) (behind_four number rounds) (Made (codes "b")) is_three second_node (λ four is_four.
    one_done behind_nodes four (Ctl (codes "a") (codes "key proto=p9sk1 dom=x user=ann !password=annpass")) (behind_five number rounds) (Told (codes "a") (codes "key proto=p9sk1 dom=x user=ann !password=annpass")) is_four first_told (λ five is_five.
    one_done (Told (codes "a") (codes "key proto=p9sk1 dom=x user=ann !password=annpass") ∷ behind_nodes) five (Ctl (codes "b") (codes "key proto=p9sk1 dom=x user=srv !password=srvpass")) (rest_of number rounds) (Told (codes "b") (codes "key proto=p9sk1 dom=x user=srv !password=srvpass")) is_five second_told (λ six is_six.
    plays_named behind_opening (between []) six (rest_of number rounds) is_six (made_known rounds (draws (5 * rounds) (generator_of number)) small) opened))))))

pub made_named : MadeIsNamed
unfolding play
made_named number rounds line cause few refused = all_named number rounds few (script_lines (gen_text number rounds)) (made_read number rounds few) line cause refused
