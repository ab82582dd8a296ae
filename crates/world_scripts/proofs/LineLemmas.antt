-- Lines are read back as they are written, and nothing else is read as them.
use Rattle.std.proofs.Common.{◌≡◌, ℕ, List, [], ◌∷◌, ◌++◌, Bool, true, ◌&&◌, leb, length, codes, Option, Some, None, option_map, refl, sym, ap, subst, ◌∙◌, inl, inr}
use Rattle.std.specs.List.{find, list_all}
use Rattle.std.specs.Str.{bytes_eq}
use Rattle.std.proofs.lemmas.Bool.{cases_Bool, and_parts, and_from}
use Rattle.std.proofs.lemmas.Slice.Eq.{bytes_eq-Decides}
use Rattle.hex.specs.Hex.{encode_lower}
use Rattle.world_scripts.specs.Pieces.{are_pieces, pieces_text}
use Rattle.world_scripts.specs.Lines.{ScriptLine, IsWritten, Dom, AsKey, AsSpeak, Reload, Node, Restart, Ctl, Open, Start, Read, Write, Answer, NoAnswer, AsGive, Close, is_domain, is_formed, is_name, is_name_byte, is_random, line_text, word}
use Rattle.world_scripts.specs.Reading.{asgive_of, ctl_of, cut_at, line_behind, line_in, line_of, name_before, name_of, open_of, pieces_of, random_before, random_of, start_of, verb_name, verb_of, verbs, with_pieces}
use Rattle.world_scripts.specs.declared.line.Verb.{Verb}
use Rattle.world_scripts.specs.declared.line.Verb.TheVariants as v
use Rattle.world_scripts.proofs.CutLemmas.{lacks, lacks_by, cut_again, cut_parts}
use Rattle.world_scripts.proofs.PieceLemmas.{pieces_again, pieces_parts, pieces_unbroken}
use Rattle.world_scripts.proofs.ReadLemmas.{bind_parts, if_parts, map_parts, some_parts}
use Rattle.world_scripts.proofs.SpellLemmas.{random_again, random_lacks, random_parts}

-- ---- a line that was read

-- what a text behind a verb and its blank is
abbrev Reads : Verb → List ℕ → ScriptLine → Type 0
Reads verb rest line = (verb_name verb ++ word rest ≡ line_text line) × (is_formed line ≡ true)

name_parts : (text name : List ℕ) → name_of text ≡ Some name → (text ≡ name) × (is_name name ≡ true)
name_parts text name h =
    let found = if_parts (is_name text) text name h in
    (found.1, ap is_name (sym found.1) ∙ found.0)

name_before_parts : (text : List ℕ) (got : List ℕ × List ℕ) → name_before text ≡ Some got → (text ≡ got.0 ++ word got.1) × (is_name got.0 ≡ true)
name_before_parts text got h =
    let cut = bind_parts (cut_at 32 text) _ got h in
    let name = bind_parts (name_of cut.0.0) _ got cut.2 in
    let same : (name.0, cut.0.1) ≡ got = some_parts _ _ name.2 in
    let parts = name_parts cut.0.0 name.0 name.1 in
    let whole : text ≡ name.0 ++ word cut.0.1 = cut_parts 32 text cut.0 cut.1 ∙ ap (λ (t : List ℕ). t ++ word cut.0.1) parts.0 in
    subst (λ (k : List ℕ × List ℕ). (text ≡ k.0 ++ word k.1) × (is_name k.0 ≡ true)) same (whole, parts.1)

random_before_parts : (text : List ℕ) (got : List ℕ × List ℕ) → random_before text ≡ Some got → (text ≡ encode_lower got.0 ++ word got.1) × (is_random got.0 ≡ true)
random_before_parts text got h =
    let cut = bind_parts (cut_at 32 text) _ got h in
    let random = bind_parts (random_of cut.0.0) _ got cut.2 in
    let same : (random.0, cut.0.1) ≡ got = some_parts _ _ random.2 in
    let parts = random_parts cut.0.0 random.0 random.1 in
    let whole : text ≡ encode_lower random.0 ++ word cut.0.1 = cut_parts 32 text cut.0 cut.1 ∙ ap (λ (t : List ℕ). t ++ word cut.0.1) parts.0 in
    subst (λ (k : List ℕ × List ℕ). (text ≡ encode_lower k.0 ++ word k.1) × (is_random k.0 ≡ true)) same (whole, parts.1)

found_passes : (test : Verb → Bool) (all : List Verb) (verb : Verb) → find test all ≡ Some verb → test verb ≡ true
found_passes test [] verb h = absurd cc
found_passes test (first ∷ all) verb h = elim (cases_Bool (test first)) [
  | inl t ↦ (
      let s : Some first ≡ Some verb = rw t at h in
      ap test (sym (some_parts first verb s)) ∙ t)
  | inr f ↦ found_passes test all verb (rw f at h)
]

verb_parts : (text : List ℕ) (verb : Verb) → verb_of text ≡ Some verb → text ≡ verb_name verb
verb_parts text verb h = (bytes_eq-Decides text (verb_name verb)).0 (found_passes (λ k. bytes_eq text (verb_name k)) verbs verb h)

node_parts : (rest : List ℕ) (line : ScriptLine) → option_map Node (name_of rest) ≡ Some line → Reads v.Node rest line
node_parts rest line h =
    let found = map_parts Node (name_of rest) line h in
    let name = name_parts rest found.0 found.1 in
    subst (Reads v.Node rest) found.2 (ap (λ (t : List ℕ). verb_name v.Node ++ word t) name.0, name.1)

restart_parts : (rest : List ℕ) (line : ScriptLine) → option_map Restart (name_of rest) ≡ Some line → Reads v.Restart rest line
restart_parts rest line h =
    let found = map_parts Restart (name_of rest) line h in
    let name = name_parts rest found.0 found.1 in
    subst (Reads v.Restart rest) found.2 (ap (λ (t : List ℕ). verb_name v.Restart ++ word t) name.0, name.1)

read_parts : (rest : List ℕ) (line : ScriptLine) → option_map Read (name_of rest) ≡ Some line → Reads v.Read rest line
read_parts rest line h =
    let found = map_parts Read (name_of rest) line h in
    let name = name_parts rest found.0 found.1 in
    subst (Reads v.Read rest) found.2 (ap (λ (t : List ℕ). verb_name v.Read ++ word t) name.0, name.1)

noanswer_parts : (rest : List ℕ) (line : ScriptLine) → option_map NoAnswer (name_of rest) ≡ Some line → Reads v.NoAnswer rest line
noanswer_parts rest line h =
    let found = map_parts NoAnswer (name_of rest) line h in
    let name = name_parts rest found.0 found.1 in
    subst (Reads v.NoAnswer rest) found.2 (ap (λ (t : List ℕ). verb_name v.NoAnswer ++ word t) name.0, name.1)

close_parts : (rest : List ℕ) (line : ScriptLine) → option_map Close (name_of rest) ≡ Some line → Reads v.Close rest line
close_parts rest line h =
    let found = map_parts Close (name_of rest) line h in
    let name = name_parts rest found.0 found.1 in
    subst (Reads v.Close rest) found.2 (ap (λ (t : List ℕ). verb_name v.Close ++ word t) name.0, name.1)

ctl_parts : (rest : List ℕ) (line : ScriptLine) → ctl_of rest ≡ Some line → Reads v.Ctl rest line
ctl_parts rest line h =
    let node = bind_parts (name_before rest) _ line h in
    let before = name_before_parts rest node.0 node.1 in
    subst (Reads v.Ctl rest) (some_parts _ _ node.2) (ap (λ (t : List ℕ). verb_name v.Ctl ++ word t) before.0, before.1)

open_parts : (rest : List ℕ) (line : ScriptLine) → open_of rest ≡ Some line → Reads v.Open rest line
open_parts rest line h =
    let node = bind_parts (name_before rest) _ line h in
    let conv = bind_parts (name_of node.0.1) _ line node.2 in
    let before = name_before_parts rest node.0 node.1 in
    let name = name_parts node.0.1 conv.0 conv.1 in
    let whole : rest ≡ node.0.0 ++ word conv.0 = before.0 ∙ ap (λ (t : List ℕ). node.0.0 ++ word t) name.0 in
    subst (Reads v.Open rest) (some_parts _ _ conv.2) (ap (λ (t : List ℕ). verb_name v.Open ++ word t) whole, and_from (is_name node.0.0) (is_name conv.0) before.1 name.1)

start_parts : (rest : List ℕ) (line : ScriptLine) → start_of rest ≡ Some line → Reads v.Start rest line
start_parts rest line h =
    let conv = bind_parts (name_before rest) _ line h in
    let random = bind_parts (random_before conv.0.1) _ line conv.2 in
    let before = name_before_parts rest conv.0 conv.1 in
    let behind = random_before_parts conv.0.1 random.0 random.1 in
    let whole : rest ≡ conv.0.0 ++ word (encode_lower random.0.0 ++ word random.0.1) = before.0 ∙ ap (λ (t : List ℕ). conv.0.0 ++ word t) behind.0 in
    subst (Reads v.Start rest) (some_parts _ _ random.2) (ap (λ (t : List ℕ). verb_name v.Start ++ word t) whole, and_from (is_name conv.0.0) (is_random random.0.0) before.1 behind.1)

write_parts : (rest : List ℕ) (line : ScriptLine) → with_pieces Write rest ≡ Some line → Reads v.Write rest line
write_parts rest line h =
    let conv = bind_parts (name_before rest) _ line h in
    let pieces = bind_parts (pieces_of conv.0.1) _ line conv.2 in
    let before = name_before_parts rest conv.0 conv.1 in
    let behind = pieces_parts conv.0.1 pieces.0 pieces.1 in
    let whole : rest ≡ conv.0.0 ++ word (pieces_text pieces.0) = before.0 ∙ ap (λ (t : List ℕ). conv.0.0 ++ word t) behind.0 in
    subst (Reads v.Write rest) (some_parts _ _ pieces.2) (ap (λ (t : List ℕ). verb_name v.Write ++ word t) whole, and_from (is_name conv.0.0) (are_pieces pieces.0) before.1 behind.1)

answer_parts : (rest : List ℕ) (line : ScriptLine) → with_pieces Answer rest ≡ Some line → Reads v.Answer rest line
answer_parts rest line h =
    let conv = bind_parts (name_before rest) _ line h in
    let pieces = bind_parts (pieces_of conv.0.1) _ line conv.2 in
    let before = name_before_parts rest conv.0 conv.1 in
    let behind = pieces_parts conv.0.1 pieces.0 pieces.1 in
    let whole : rest ≡ conv.0.0 ++ word (pieces_text pieces.0) = before.0 ∙ ap (λ (t : List ℕ). conv.0.0 ++ word t) behind.0 in
    subst (Reads v.Answer rest) (some_parts _ _ pieces.2) (ap (λ (t : List ℕ). verb_name v.Answer ++ word t) whole, and_from (is_name conv.0.0) (are_pieces pieces.0) before.1 behind.1)

asgive_parts : (rest : List ℕ) (line : ScriptLine) → asgive_of rest ≡ Some line → Reads v.AsGive rest line
asgive_parts rest line h =
    let session = bind_parts (name_before rest) _ line h in
    let cut = bind_parts (cut_at 32 session.0.1) _ line session.2 in
    let pieces = bind_parts (pieces_of cut.0.0) _ line cut.2 in
    let first = bind_parts (random_before cut.0.1) _ line pieces.2 in
    let second = bind_parts (random_before first.0.1) _ line first.2 in
    let third = bind_parts (random_of second.0.1) _ line second.2 in
    let name = name_before_parts rest session.0 session.1 in
    let parts = cut_parts 32 session.0.1 cut.0 cut.1 in
    let bytes = pieces_parts cut.0.0 pieces.0 pieces.1 in
    let one = random_before_parts cut.0.1 first.0 first.1 in
    let two = random_before_parts first.0.1 second.0 second.1 in
    let three = random_parts second.0.1 third.0 third.1 in
    let whole : rest ≡ session.0.0 ++ word (pieces_text pieces.0 ++ word (encode_lower first.0.0 ++ word (encode_lower second.0.0 ++ word (encode_lower third.0)))) =
    name.0 ∙ ap (λ (t : List ℕ). session.0.0 ++ word t) (parts
    ∙ ap (λ (t : List ℕ). t ++ word cut.0.1) bytes.0 ∙ ap (λ (t : List ℕ). pieces_text pieces.0 ++ word t) (one.0
    ∙ ap (λ (t : List ℕ). encode_lower first.0.0 ++ word t) (two.0
    ∙ ap (λ (t : List ℕ). encode_lower second.0.0 ++ word t) three.0))) in
    let formed : is_formed (AsGive session.0.0 pieces.0 first.0.0 second.0.0 third.0) ≡ true =
    and_from (is_name session.0.0) _ name.1 (and_from (are_pieces pieces.0) _ bytes.1 (and_from (is_random first.0.0) _ one.1 (and_from (is_random second.0.0) (is_random third.0) two.1 three.1))) in
    subst (Reads v.AsGive rest) (some_parts _ _ third.2) (ap (λ (t : List ℕ). verb_name v.AsGive ++ word t) whole, formed)

behind_parts : (verb : Verb) (rest : List ℕ) (line : ScriptLine) → line_behind verb rest ≡ Some line → Reads verb rest line
behind_parts v.Dom rest line h =
    let found = if_parts (is_domain rest) (Dom rest) line h in
    subst (Reads v.Dom rest) found.1 (refl, found.0)
behind_parts v.AsKey rest line h = subst (Reads v.AsKey rest) (some_parts (AsKey rest) line h) (refl, refl)
behind_parts v.AsSpeak rest line h = subst (Reads v.AsSpeak rest) (some_parts (AsSpeak rest) line h) (refl, refl)
behind_parts v.Node rest line h = node_parts rest line h
behind_parts v.Restart rest line h = restart_parts rest line h
behind_parts v.Ctl rest line h = ctl_parts rest line h
behind_parts v.Open rest line h = open_parts rest line h
behind_parts v.Start rest line h = start_parts rest line h
behind_parts v.Read rest line h = read_parts rest line h
behind_parts v.Write rest line h = write_parts rest line h
behind_parts v.Answer rest line h = answer_parts rest line h
behind_parts v.NoAnswer rest line h = noanswer_parts rest line h
behind_parts v.AsGive rest line h = asgive_parts rest line h
behind_parts v.Close rest line h = close_parts rest line h

-- by how it was cut, if it has a blank
in_parts : (text : List ℕ) (o : Option (List ℕ × List ℕ)) (line : ScriptLine) → ((cut : List ℕ × List ℕ) → o ≡ Some cut → text ≡ cut.0 ++ word cut.1) → line_in text o ≡ Some line → IsWritten text line
in_parts text None line so h =
    let found = if_parts (bytes_eq text (codes "reload")) Reload line h in
    subst (IsWritten text) found.1 (record { same = (bytes_eq-Decides text (codes "reload")).0 found.0; formed = refl })
in_parts text (Some cut) line so h =
    let verb = bind_parts (verb_of cut.0) _ line h in
    let parts = behind_parts verb.0 cut.1 line verb.2 in
    record { same = so cut refl ∙ ap (λ (t : List ℕ). t ++ word cut.1) (verb_parts cut.0 verb.0 verb.1) ∙ parts.0; formed = parts.1 }

pub line_parts : (text : List ℕ) (line : ScriptLine) → line_of text ≡ Some line → IsWritten text line
unfolding line_of
line_parts text line h = in_parts text (cut_at 32 text) line (cut_parts 32 text) h

-- ---- a line that is written

name_again : (name : List ℕ) → is_name name ≡ true → name_of name ≡ Some name
name_again name h = rw h refl

name_lacks : (name : List ℕ) → is_name name ≡ true → lacks 32 name ≡ true
name_lacks name h =
    let some = and_parts (leb 1 (length name)) (leb (length name) 16 && list_all is_name_byte name) h in
    let bytes = and_parts (leb (length name) 16) (list_all is_name_byte name) some.1 in
    lacks_by is_name_byte 32 refl name bytes.1

name_before_again : (name rest : List ℕ) → is_name name ≡ true → name_before (name ++ word rest) ≡ Some (name, rest)
name_before_again name rest h = rw (cut_again 32 name rest (name_lacks name h), name_again name h) refl

random_before_again : (random rest : List ℕ) → is_random random ≡ true → random_before (encode_lower random ++ word rest) ≡ Some (random, rest)
random_before_again random rest h = rw (cut_again 32 (encode_lower random) rest (random_lacks random h), random_again random h) refl

behind_again : (verb : Verb) (rest : List ℕ) (line : ScriptLine) → lacks 32 (verb_name verb) ≡ true → verb_of (verb_name verb) ≡ Some verb → line_behind verb rest ≡ Some line → line_of (verb_name verb ++ word rest) ≡ Some line
unfolding line_of
behind_again verb rest line unbroken known read = rw (cut_again 32 (verb_name verb) rest unbroken, known, read) refl

reload_again : line_of (codes "reload") ≡ Some Reload
unfolding line_of
reload_again = refl

pub line_again : (line : ScriptLine) → is_formed line ≡ true → line_of (line_text line) ≡ Some line
line_again (Dom dom) h = behind_again v.Dom dom (Dom dom) refl refl (rw h refl)
line_again (AsKey tuple) h = behind_again v.AsKey tuple (AsKey tuple) refl refl refl
line_again (AsSpeak tuple) h = behind_again v.AsSpeak tuple (AsSpeak tuple) refl refl refl
line_again Reload h = reload_again
line_again (Ctl node line) h = behind_again v.Ctl (node ++ word line) (Ctl node line) refl refl (rw (name_before_again node line h) refl)
line_again (Open node conv) h =
    let both = and_parts (is_name node) (is_name conv) h in
    behind_again v.Open (node ++ word conv) (Open node conv) refl refl (rw (name_before_again node conv both.0, name_again conv both.1) refl)
line_again (Start conv random tuple) h =
    let both = and_parts (is_name conv) (is_random random) h in
    let rest : List ℕ = encode_lower random ++ word tuple in
    behind_again v.Start (conv ++ word (encode_lower random ++ word tuple)) (Start conv random tuple) refl refl
    (rw (name_before_again conv (encode_lower random ++ word tuple) both.0, random_before_again random tuple both.1) refl)
line_again (AsGive session pieces first second third) h =
    let name = and_parts (is_name session) (are_pieces pieces && (is_random first && (is_random second && is_random third))) h in
    let bytes = and_parts (are_pieces pieces) (is_random first && (is_random second && is_random third)) name.1 in
    let one = and_parts (is_random first) (is_random second && is_random third) bytes.1 in
    let two = and_parts (is_random second) (is_random third) one.1 in
    let last = encode_lower second ++ word (encode_lower third) in
    behind_again v.AsGive (session ++ word (pieces_text pieces ++ word (encode_lower first ++ word (encode_lower second ++ word (encode_lower third))))) (AsGive session pieces first second third) refl refl
    (rw (
      name_before_again session (pieces_text pieces ++ word (encode_lower first ++ word (encode_lower second ++ word (encode_lower third)))) name.0,
      cut_again 32 (pieces_text pieces) (encode_lower first ++ word (encode_lower second ++ word (encode_lower third))) (pieces_unbroken pieces bytes.0),
      pieces_again pieces bytes.0,
      random_before_again first (encode_lower second ++ word (encode_lower third)) one.0,
      random_before_again second (encode_lower third) two.0,
      random_again third two.1,
    ) refl)
line_again (Node name) h = behind_again v.Node name (Node name) refl refl (rw (name_again name h) refl)
line_again (Restart name) h = behind_again v.Restart name (Restart name) refl refl (rw (name_again name h) refl)
line_again (Read name) h = behind_again v.Read name (Read name) refl refl (rw (name_again name h) refl)
line_again (NoAnswer name) h = behind_again v.NoAnswer name (NoAnswer name) refl refl (rw (name_again name h) refl)
line_again (Close name) h = behind_again v.Close name (Close name) refl refl (rw (name_again name h) refl)
line_again (Write conv pieces) h =
    let both = and_parts (is_name conv) (are_pieces pieces) h in
    behind_again v.Write (conv ++ word (pieces_text pieces)) (Write conv pieces) refl refl (rw (name_before_again conv (pieces_text pieces) both.0, pieces_again pieces both.1) refl)
line_again (Answer conv pieces) h =
    let both = and_parts (is_name conv) (are_pieces pieces) h in
    behind_again v.Answer (conv ++ word (pieces_text pieces)) (Answer conv pieces) refl refl (rw (name_before_again conv (pieces_text pieces) both.0, pieces_again pieces both.1) refl)

pub line_written : (text : List ℕ) (line : ScriptLine) → IsWritten text line → line_of text ≡ Some line
line_written text line h = ap line_of h.same ∙ line_again line h.formed
