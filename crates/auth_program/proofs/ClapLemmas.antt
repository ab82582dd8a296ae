-- What clap makes of the words of `authsrv`: each value goes to its option, in each order of the options.
use Rattle.std.proofs.Common.{◌≡◌, ◌==◌, ◌&&◌, ◌||◌, ℕ, List, [], ◌∷◌, Bool, true, false, refl, ap, sym, subst, codes, Some, None}
use Rattle.std.specs.Prelude.{if◌then◌else◌}
use Rattle.std.specs.Str.{bytes_eq}
use Rattle.std.specs.Option.{option_map_or}
use Rattle.clap.specs.Words.{Row, Rule, Text, first_of, matches_of, takes}
use Rattle.clap.specs.Values.{reading_of}
use Rattle.clap.specs.declared.builder.value_parser.ValueParser.TheVariants as vp
use Rattle.clap.specs.declared.parser.matches.ValueSource.TheVariants.{CommandLine}
use Rattle.clap.specs.Lexer.{long_of, short_of}
use Rattle.clap.specs.Walk.{Held, Names, Walk, Step, after_step, idle, long_or_other, nothing_held, option, plain_word, short_or_plain, trailing, walk, walk_from, walked, word_met}
use Rattle.clap.specs.Simple.{Shape, built}
use Rattle.clap.specs.Takes.{bundle_passes, flag_word_passes, step_passes, turn_passes, walk_passes}
use Rattle.clap.proofs.OnLiterals.{clap_on_literals}
use Rattle.auth_program.specs.Reading.{authsrv_app}

abbrev top : Shape
top = (built authsrv_app).top

-- the walk behind an option, and behind its value
abbrev pub at_option : List Row → Text → Walk
at_option rows id = record { held = record { rows = rows; pending = Some (id, []); skip = 0 }; waiting = option id; position = 1; is_trailing = false; stopped = None }

abbrev pub behind : List Row → Text → Text → Walk
behind rows id value = record { held = record { rows = rows; pending = Some (id, value ∷ []); skip = 0 }; waiting = idle; position = 1; is_trailing = false; stopped = None }

-- what is found for an option
abbrev pub row : Text → Text → Row
row id value = record { id = id; values = value ∷ []; count = None; source = Some CommandLine; reading = reading_of vp.String }

-- ---- a value behind an option

-- the word is no flag and not `--` alone
pub record IsPlainWord (word : Text) : Type 0 where
  pub other : bytes_eq word (45 ∷ 45 ∷ []) ≡ false
  pub long : long_of word ≡ None
  pub short : short_of word ≡ None

pub plain : (x : ℕ) (t : Text) → (x == 45) ≡ false → IsPlainWord (x ∷ t)
plain x t e = record { other = rw e refl; long = rw e refl; short = rw e refl }

pub met_plain : (c : List Rule) (names : Names) (id word : Text) (h : Held) → IsPlainWord word → word_met c names false (option id) 1 word h ≡ plain_word c (option id) word h
met_plain c names id word h p =
    subst (λ b. (if b then (h, trailing 1) else long_or_other c (option id) word (long_of word) h) ≡ plain_word c (option id) word h) (sym p.other)
    (subst (λ o. long_or_other c (option id) word o h ≡ plain_word c (option id) word h) (sym p.long)
    (subst (λ o. short_or_plain c (option id) word o h ≡ plain_word c (option id) word h) (sym p.short) refl))

pub flag_passes : (c : List Rule) (again : Bool) (word : Text) (h : Held) → IsPlainWord word → flag_word_passes c again (long_of word) word h ≡ true
flag_passes c again word h p =
    subst (λ o. flag_word_passes c again o word h ≡ true) (sym p.long)
    (subst (λ o. option_map_or (λ flags. bundle_passes c again flags h) o true ≡ true) (sym p.short) refl)

pub either_passes : (a b : Bool) → b ≡ true → (a || b) ≡ true
either_passes true b e = refl
either_passes false b e = e

pub both_pass : (a b : Bool) → a ≡ true → b ≡ true → (a && b) ≡ true
both_pass a b e f = rw (e, f) refl

dom_value : (rows : List Row) (word : Text) → IsPlainWord word → walked top.rules [] (at_option rows (codes "dom")) word ≡ behind rows (codes "dom") word
unfolding clap_on_literals
dom_value rows word p = ap (λ (m : Held × Step). after_step top.rules word (at_option rows (codes "dom")) m.0 m.1) (met_plain top.rules [] (codes "dom") word (at_option rows (codes "dom")).held p)

dom_turn : (rows : List Row) (word : Text) → IsPlainWord word → turn_passes top [] (at_option rows (codes "dom")) word ≡ true
dom_turn rows word p = both_pass _ _
    (either_passes (bytes_eq word (45 ∷ 45 ∷ [])) _ (flag_passes top.rules top.args_override_self word (at_option rows (codes "dom")).held p))
    (subst (λ (m : Held × Step). step_passes top 1 m.0 m.1 ≡ true) (sym (met_plain top.rules [] (codes "dom") word (at_option rows (codes "dom")).held p)) refl)

keys_value : (rows : List Row) (word : Text) → IsPlainWord word → walked top.rules [] (at_option rows (codes "keys")) word ≡ behind rows (codes "keys") word
unfolding clap_on_literals
keys_value rows word p = ap (λ (m : Held × Step). after_step top.rules word (at_option rows (codes "keys")) m.0 m.1) (met_plain top.rules [] (codes "keys") word (at_option rows (codes "keys")).held p)

keys_turn : (rows : List Row) (word : Text) → IsPlainWord word → turn_passes top [] (at_option rows (codes "keys")) word ≡ true
keys_turn rows word p = both_pass _ _
    (either_passes (bytes_eq word (45 ∷ 45 ∷ [])) _ (flag_passes top.rules top.args_override_self word (at_option rows (codes "keys")).held p))
    (subst (λ (m : Held × Step). step_passes top 1 m.0 m.1 ≡ true) (sym (met_plain top.rules [] (codes "keys") word (at_option rows (codes "keys")).held p)) refl)

speaks_value : (rows : List Row) (word : Text) → IsPlainWord word → walked top.rules [] (at_option rows (codes "speaks")) word ≡ behind rows (codes "speaks") word
unfolding clap_on_literals
speaks_value rows word p = ap (λ (m : Held × Step). after_step top.rules word (at_option rows (codes "speaks")) m.0 m.1) (met_plain top.rules [] (codes "speaks") word (at_option rows (codes "speaks")).held p)

speaks_turn : (rows : List Row) (word : Text) → IsPlainWord word → turn_passes top [] (at_option rows (codes "speaks")) word ≡ true
speaks_turn rows word p = both_pass _ _
    (either_passes (bytes_eq word (45 ∷ 45 ∷ [])) _ (flag_passes top.rules top.args_override_self word (at_option rows (codes "speaks")).held p))
    (subst (λ (m : Held × Step). step_passes top 1 m.0 m.1 ≡ true) (sym (met_plain top.rules [] (codes "speaks") word (at_option rows (codes "speaks")).held p)) refl)

-- ---- the words one by one

pub pass_on : (s : Shape) (names : Names) (w after : Walk) (word : Text) (rest : List Text) → turn_passes s names w word ≡ true → walked s.rules names w word ≡ after
    → walk_passes s names after rest ≡ true → walk_passes s names w (word ∷ rest) ≡ true
unfolding walk_passes
pass_on s names w after word rest p e h = rw (p, e) h

pub pass_end : (s : Shape) (names : Names) (w : Walk) → walk_passes s names w [] ≡ true
unfolding walk_passes
pass_end s names w = refl

-- ---- --dom, --keys, --speaks

dom_keys_speaks_1 : walked top.rules [] (walk_from nothing_held) (codes "--dom") ≡ (at_option [] (codes "dom"))
unfolding clap_on_literals
dom_keys_speaks_1 = refl

dom_keys_speaks_3 : (x : Text) → walked top.rules [] (behind [] (codes "dom") x) (codes "--keys") ≡ (at_option (row (codes "dom") x ∷ []) (codes "keys"))
unfolding clap_on_literals
dom_keys_speaks_3 x = refl

dom_keys_speaks_5 : (x y : Text) → walked top.rules [] (behind (row (codes "dom") x ∷ []) (codes "keys") y) (codes "--speaks") ≡ (at_option (row (codes "dom") x ∷ row (codes "keys") y ∷ []) (codes "speaks"))
unfolding clap_on_literals
dom_keys_speaks_5 x y = refl

dom_keys_speaks_t1 : turn_passes top [] (walk_from nothing_held) (codes "--dom") ≡ true
unfolding clap_on_literals
dom_keys_speaks_t1 = refl

dom_keys_speaks_t3 : (x : Text) → turn_passes top [] (behind [] (codes "dom") x) (codes "--keys") ≡ true
unfolding clap_on_literals
dom_keys_speaks_t3 x = refl

dom_keys_speaks_t5 : (x y : Text) → turn_passes top [] (behind (row (codes "dom") x ∷ []) (codes "keys") y) (codes "--speaks") ≡ true
unfolding clap_on_literals
dom_keys_speaks_t5 x y = refl

dom_keys_speaks_walk : (x y z : Text) → IsPlainWord x → IsPlainWord y → IsPlainWord z → walk top.rules [] nothing_held ((codes "--dom") ∷ x ∷ (codes "--keys") ∷ y ∷ (codes "--speaks") ∷ z ∷ []) ≡ (behind (row (codes "dom") x ∷ row (codes "keys") y ∷ []) (codes "speaks") z)
dom_keys_speaks_walk x y z p q r = rw (dom_keys_speaks_1, dom_value [] x p, dom_keys_speaks_3 x, keys_value (row (codes "dom") x ∷ []) y q, dom_keys_speaks_5 x y, speaks_value (row (codes "dom") x ∷ row (codes "keys") y ∷ []) z r) refl

dom_keys_speaks_pass : (x y z : Text) → IsPlainWord x → IsPlainWord y → IsPlainWord z → walk_passes top [] (walk_from nothing_held) ((codes "--dom") ∷ x ∷ (codes "--keys") ∷ y ∷ (codes "--speaks") ∷ z ∷ []) ≡ true
dom_keys_speaks_pass x y z p q r =
    pass_on top [] _ _ (codes "--dom") _ dom_keys_speaks_t1 dom_keys_speaks_1
    (pass_on top [] _ _ x _ (dom_turn [] x p) (dom_value [] x p)
    (pass_on top [] _ _ (codes "--keys") _ (dom_keys_speaks_t3 x) (dom_keys_speaks_3 x)
    (pass_on top [] _ _ y _ (keys_turn (row (codes "dom") x ∷ []) y q) (keys_value (row (codes "dom") x ∷ []) y q)
    (pass_on top [] _ _ (codes "--speaks") _ (dom_keys_speaks_t5 x y) (dom_keys_speaks_5 x y)
    (pass_on top [] _ _ z _ (speaks_turn (row (codes "dom") x ∷ row (codes "keys") y ∷ []) z r) (speaks_value (row (codes "dom") x ∷ row (codes "keys") y ∷ []) z r)
    (pass_end top [] _))))))

pub dom_keys_speaks_takes : (n : Text) (x y z : Text) → IsPlainWord x → IsPlainWord y → IsPlainWord z → takes authsrv_app (n ∷ (codes "--dom") ∷ x ∷ (codes "--keys") ∷ y ∷ (codes "--speaks") ∷ z ∷ []) ≡ true
dom_keys_speaks_takes n x y z p q r = rw (dom_keys_speaks_walk x y z p q r, dom_keys_speaks_pass x y z p q r) refl

pub dom_keys_speaks_dom : (n : Text) (x y z : Text) → IsPlainWord x → IsPlainWord y → IsPlainWord z → first_of (codes "dom") (matches_of authsrv_app (n ∷ (codes "--dom") ∷ x ∷ (codes "--keys") ∷ y ∷ (codes "--speaks") ∷ z ∷ [])) ≡ Some x
dom_keys_speaks_dom n x y z p q r = rw (dom_keys_speaks_walk x y z p q r) refl

pub dom_keys_speaks_keys : (n : Text) (x y z : Text) → IsPlainWord x → IsPlainWord y → IsPlainWord z → first_of (codes "keys") (matches_of authsrv_app (n ∷ (codes "--dom") ∷ x ∷ (codes "--keys") ∷ y ∷ (codes "--speaks") ∷ z ∷ [])) ≡ Some y
dom_keys_speaks_keys n x y z p q r = rw (dom_keys_speaks_walk x y z p q r) refl

pub dom_keys_speaks_speaks : (n : Text) (x y z : Text) → IsPlainWord x → IsPlainWord y → IsPlainWord z → first_of (codes "speaks") (matches_of authsrv_app (n ∷ (codes "--dom") ∷ x ∷ (codes "--keys") ∷ y ∷ (codes "--speaks") ∷ z ∷ [])) ≡ Some z
dom_keys_speaks_speaks n x y z p q r = rw (dom_keys_speaks_walk x y z p q r) refl

-- ---- --dom, --speaks, --keys

dom_speaks_keys_1 : walked top.rules [] (walk_from nothing_held) (codes "--dom") ≡ (at_option [] (codes "dom"))
unfolding clap_on_literals
dom_speaks_keys_1 = refl

dom_speaks_keys_3 : (x : Text) → walked top.rules [] (behind [] (codes "dom") x) (codes "--speaks") ≡ (at_option (row (codes "dom") x ∷ []) (codes "speaks"))
unfolding clap_on_literals
dom_speaks_keys_3 x = refl

dom_speaks_keys_5 : (x y : Text) → walked top.rules [] (behind (row (codes "dom") x ∷ []) (codes "speaks") y) (codes "--keys") ≡ (at_option (row (codes "dom") x ∷ row (codes "speaks") y ∷ []) (codes "keys"))
unfolding clap_on_literals
dom_speaks_keys_5 x y = refl

dom_speaks_keys_t1 : turn_passes top [] (walk_from nothing_held) (codes "--dom") ≡ true
unfolding clap_on_literals
dom_speaks_keys_t1 = refl

dom_speaks_keys_t3 : (x : Text) → turn_passes top [] (behind [] (codes "dom") x) (codes "--speaks") ≡ true
unfolding clap_on_literals
dom_speaks_keys_t3 x = refl

dom_speaks_keys_t5 : (x y : Text) → turn_passes top [] (behind (row (codes "dom") x ∷ []) (codes "speaks") y) (codes "--keys") ≡ true
unfolding clap_on_literals
dom_speaks_keys_t5 x y = refl

dom_speaks_keys_walk : (x y z : Text) → IsPlainWord x → IsPlainWord y → IsPlainWord z → walk top.rules [] nothing_held ((codes "--dom") ∷ x ∷ (codes "--speaks") ∷ y ∷ (codes "--keys") ∷ z ∷ []) ≡ (behind (row (codes "dom") x ∷ row (codes "speaks") y ∷ []) (codes "keys") z)
dom_speaks_keys_walk x y z p q r = rw (dom_speaks_keys_1, dom_value [] x p, dom_speaks_keys_3 x, speaks_value (row (codes "dom") x ∷ []) y q, dom_speaks_keys_5 x y, keys_value (row (codes "dom") x ∷ row (codes "speaks") y ∷ []) z r) refl

dom_speaks_keys_pass : (x y z : Text) → IsPlainWord x → IsPlainWord y → IsPlainWord z → walk_passes top [] (walk_from nothing_held) ((codes "--dom") ∷ x ∷ (codes "--speaks") ∷ y ∷ (codes "--keys") ∷ z ∷ []) ≡ true
dom_speaks_keys_pass x y z p q r =
    pass_on top [] _ _ (codes "--dom") _ dom_speaks_keys_t1 dom_speaks_keys_1
    (pass_on top [] _ _ x _ (dom_turn [] x p) (dom_value [] x p)
    (pass_on top [] _ _ (codes "--speaks") _ (dom_speaks_keys_t3 x) (dom_speaks_keys_3 x)
    (pass_on top [] _ _ y _ (speaks_turn (row (codes "dom") x ∷ []) y q) (speaks_value (row (codes "dom") x ∷ []) y q)
    (pass_on top [] _ _ (codes "--keys") _ (dom_speaks_keys_t5 x y) (dom_speaks_keys_5 x y)
    (pass_on top [] _ _ z _ (keys_turn (row (codes "dom") x ∷ row (codes "speaks") y ∷ []) z r) (keys_value (row (codes "dom") x ∷ row (codes "speaks") y ∷ []) z r)
    (pass_end top [] _))))))

pub dom_speaks_keys_takes : (n : Text) (x y z : Text) → IsPlainWord x → IsPlainWord y → IsPlainWord z → takes authsrv_app (n ∷ (codes "--dom") ∷ x ∷ (codes "--speaks") ∷ y ∷ (codes "--keys") ∷ z ∷ []) ≡ true
dom_speaks_keys_takes n x y z p q r = rw (dom_speaks_keys_walk x y z p q r, dom_speaks_keys_pass x y z p q r) refl

pub dom_speaks_keys_dom : (n : Text) (x y z : Text) → IsPlainWord x → IsPlainWord y → IsPlainWord z → first_of (codes "dom") (matches_of authsrv_app (n ∷ (codes "--dom") ∷ x ∷ (codes "--speaks") ∷ y ∷ (codes "--keys") ∷ z ∷ [])) ≡ Some x
dom_speaks_keys_dom n x y z p q r = rw (dom_speaks_keys_walk x y z p q r) refl

pub dom_speaks_keys_speaks : (n : Text) (x y z : Text) → IsPlainWord x → IsPlainWord y → IsPlainWord z → first_of (codes "speaks") (matches_of authsrv_app (n ∷ (codes "--dom") ∷ x ∷ (codes "--speaks") ∷ y ∷ (codes "--keys") ∷ z ∷ [])) ≡ Some y
dom_speaks_keys_speaks n x y z p q r = rw (dom_speaks_keys_walk x y z p q r) refl

pub dom_speaks_keys_keys : (n : Text) (x y z : Text) → IsPlainWord x → IsPlainWord y → IsPlainWord z → first_of (codes "keys") (matches_of authsrv_app (n ∷ (codes "--dom") ∷ x ∷ (codes "--speaks") ∷ y ∷ (codes "--keys") ∷ z ∷ [])) ≡ Some z
dom_speaks_keys_keys n x y z p q r = rw (dom_speaks_keys_walk x y z p q r) refl

-- ---- --keys, --dom, --speaks

keys_dom_speaks_1 : walked top.rules [] (walk_from nothing_held) (codes "--keys") ≡ (at_option [] (codes "keys"))
unfolding clap_on_literals
keys_dom_speaks_1 = refl

keys_dom_speaks_3 : (x : Text) → walked top.rules [] (behind [] (codes "keys") x) (codes "--dom") ≡ (at_option (row (codes "keys") x ∷ []) (codes "dom"))
unfolding clap_on_literals
keys_dom_speaks_3 x = refl

keys_dom_speaks_5 : (x y : Text) → walked top.rules [] (behind (row (codes "keys") x ∷ []) (codes "dom") y) (codes "--speaks") ≡ (at_option (row (codes "keys") x ∷ row (codes "dom") y ∷ []) (codes "speaks"))
unfolding clap_on_literals
keys_dom_speaks_5 x y = refl

keys_dom_speaks_t1 : turn_passes top [] (walk_from nothing_held) (codes "--keys") ≡ true
unfolding clap_on_literals
keys_dom_speaks_t1 = refl

keys_dom_speaks_t3 : (x : Text) → turn_passes top [] (behind [] (codes "keys") x) (codes "--dom") ≡ true
unfolding clap_on_literals
keys_dom_speaks_t3 x = refl

keys_dom_speaks_t5 : (x y : Text) → turn_passes top [] (behind (row (codes "keys") x ∷ []) (codes "dom") y) (codes "--speaks") ≡ true
unfolding clap_on_literals
keys_dom_speaks_t5 x y = refl

keys_dom_speaks_walk : (x y z : Text) → IsPlainWord x → IsPlainWord y → IsPlainWord z → walk top.rules [] nothing_held ((codes "--keys") ∷ x ∷ (codes "--dom") ∷ y ∷ (codes "--speaks") ∷ z ∷ []) ≡ (behind (row (codes "keys") x ∷ row (codes "dom") y ∷ []) (codes "speaks") z)
keys_dom_speaks_walk x y z p q r = rw (keys_dom_speaks_1, keys_value [] x p, keys_dom_speaks_3 x, dom_value (row (codes "keys") x ∷ []) y q, keys_dom_speaks_5 x y, speaks_value (row (codes "keys") x ∷ row (codes "dom") y ∷ []) z r) refl

keys_dom_speaks_pass : (x y z : Text) → IsPlainWord x → IsPlainWord y → IsPlainWord z → walk_passes top [] (walk_from nothing_held) ((codes "--keys") ∷ x ∷ (codes "--dom") ∷ y ∷ (codes "--speaks") ∷ z ∷ []) ≡ true
keys_dom_speaks_pass x y z p q r =
    pass_on top [] _ _ (codes "--keys") _ keys_dom_speaks_t1 keys_dom_speaks_1
    (pass_on top [] _ _ x _ (keys_turn [] x p) (keys_value [] x p)
    (pass_on top [] _ _ (codes "--dom") _ (keys_dom_speaks_t3 x) (keys_dom_speaks_3 x)
    (pass_on top [] _ _ y _ (dom_turn (row (codes "keys") x ∷ []) y q) (dom_value (row (codes "keys") x ∷ []) y q)
    (pass_on top [] _ _ (codes "--speaks") _ (keys_dom_speaks_t5 x y) (keys_dom_speaks_5 x y)
    (pass_on top [] _ _ z _ (speaks_turn (row (codes "keys") x ∷ row (codes "dom") y ∷ []) z r) (speaks_value (row (codes "keys") x ∷ row (codes "dom") y ∷ []) z r)
    (pass_end top [] _))))))

pub keys_dom_speaks_takes : (n : Text) (x y z : Text) → IsPlainWord x → IsPlainWord y → IsPlainWord z → takes authsrv_app (n ∷ (codes "--keys") ∷ x ∷ (codes "--dom") ∷ y ∷ (codes "--speaks") ∷ z ∷ []) ≡ true
keys_dom_speaks_takes n x y z p q r = rw (keys_dom_speaks_walk x y z p q r, keys_dom_speaks_pass x y z p q r) refl

pub keys_dom_speaks_keys : (n : Text) (x y z : Text) → IsPlainWord x → IsPlainWord y → IsPlainWord z → first_of (codes "keys") (matches_of authsrv_app (n ∷ (codes "--keys") ∷ x ∷ (codes "--dom") ∷ y ∷ (codes "--speaks") ∷ z ∷ [])) ≡ Some x
keys_dom_speaks_keys n x y z p q r = rw (keys_dom_speaks_walk x y z p q r) refl

pub keys_dom_speaks_dom : (n : Text) (x y z : Text) → IsPlainWord x → IsPlainWord y → IsPlainWord z → first_of (codes "dom") (matches_of authsrv_app (n ∷ (codes "--keys") ∷ x ∷ (codes "--dom") ∷ y ∷ (codes "--speaks") ∷ z ∷ [])) ≡ Some y
keys_dom_speaks_dom n x y z p q r = rw (keys_dom_speaks_walk x y z p q r) refl

pub keys_dom_speaks_speaks : (n : Text) (x y z : Text) → IsPlainWord x → IsPlainWord y → IsPlainWord z → first_of (codes "speaks") (matches_of authsrv_app (n ∷ (codes "--keys") ∷ x ∷ (codes "--dom") ∷ y ∷ (codes "--speaks") ∷ z ∷ [])) ≡ Some z
keys_dom_speaks_speaks n x y z p q r = rw (keys_dom_speaks_walk x y z p q r) refl

-- ---- --keys, --speaks, --dom

keys_speaks_dom_1 : walked top.rules [] (walk_from nothing_held) (codes "--keys") ≡ (at_option [] (codes "keys"))
unfolding clap_on_literals
keys_speaks_dom_1 = refl

keys_speaks_dom_3 : (x : Text) → walked top.rules [] (behind [] (codes "keys") x) (codes "--speaks") ≡ (at_option (row (codes "keys") x ∷ []) (codes "speaks"))
unfolding clap_on_literals
keys_speaks_dom_3 x = refl

keys_speaks_dom_5 : (x y : Text) → walked top.rules [] (behind (row (codes "keys") x ∷ []) (codes "speaks") y) (codes "--dom") ≡ (at_option (row (codes "keys") x ∷ row (codes "speaks") y ∷ []) (codes "dom"))
unfolding clap_on_literals
keys_speaks_dom_5 x y = refl

keys_speaks_dom_t1 : turn_passes top [] (walk_from nothing_held) (codes "--keys") ≡ true
unfolding clap_on_literals
keys_speaks_dom_t1 = refl

keys_speaks_dom_t3 : (x : Text) → turn_passes top [] (behind [] (codes "keys") x) (codes "--speaks") ≡ true
unfolding clap_on_literals
keys_speaks_dom_t3 x = refl

keys_speaks_dom_t5 : (x y : Text) → turn_passes top [] (behind (row (codes "keys") x ∷ []) (codes "speaks") y) (codes "--dom") ≡ true
unfolding clap_on_literals
keys_speaks_dom_t5 x y = refl

keys_speaks_dom_walk : (x y z : Text) → IsPlainWord x → IsPlainWord y → IsPlainWord z → walk top.rules [] nothing_held ((codes "--keys") ∷ x ∷ (codes "--speaks") ∷ y ∷ (codes "--dom") ∷ z ∷ []) ≡ (behind (row (codes "keys") x ∷ row (codes "speaks") y ∷ []) (codes "dom") z)
keys_speaks_dom_walk x y z p q r = rw (keys_speaks_dom_1, keys_value [] x p, keys_speaks_dom_3 x, speaks_value (row (codes "keys") x ∷ []) y q, keys_speaks_dom_5 x y, dom_value (row (codes "keys") x ∷ row (codes "speaks") y ∷ []) z r) refl

keys_speaks_dom_pass : (x y z : Text) → IsPlainWord x → IsPlainWord y → IsPlainWord z → walk_passes top [] (walk_from nothing_held) ((codes "--keys") ∷ x ∷ (codes "--speaks") ∷ y ∷ (codes "--dom") ∷ z ∷ []) ≡ true
keys_speaks_dom_pass x y z p q r =
    pass_on top [] _ _ (codes "--keys") _ keys_speaks_dom_t1 keys_speaks_dom_1
    (pass_on top [] _ _ x _ (keys_turn [] x p) (keys_value [] x p)
    (pass_on top [] _ _ (codes "--speaks") _ (keys_speaks_dom_t3 x) (keys_speaks_dom_3 x)
    (pass_on top [] _ _ y _ (speaks_turn (row (codes "keys") x ∷ []) y q) (speaks_value (row (codes "keys") x ∷ []) y q)
    (pass_on top [] _ _ (codes "--dom") _ (keys_speaks_dom_t5 x y) (keys_speaks_dom_5 x y)
    (pass_on top [] _ _ z _ (dom_turn (row (codes "keys") x ∷ row (codes "speaks") y ∷ []) z r) (dom_value (row (codes "keys") x ∷ row (codes "speaks") y ∷ []) z r)
    (pass_end top [] _))))))

pub keys_speaks_dom_takes : (n : Text) (x y z : Text) → IsPlainWord x → IsPlainWord y → IsPlainWord z → takes authsrv_app (n ∷ (codes "--keys") ∷ x ∷ (codes "--speaks") ∷ y ∷ (codes "--dom") ∷ z ∷ []) ≡ true
keys_speaks_dom_takes n x y z p q r = rw (keys_speaks_dom_walk x y z p q r, keys_speaks_dom_pass x y z p q r) refl

pub keys_speaks_dom_keys : (n : Text) (x y z : Text) → IsPlainWord x → IsPlainWord y → IsPlainWord z → first_of (codes "keys") (matches_of authsrv_app (n ∷ (codes "--keys") ∷ x ∷ (codes "--speaks") ∷ y ∷ (codes "--dom") ∷ z ∷ [])) ≡ Some x
keys_speaks_dom_keys n x y z p q r = rw (keys_speaks_dom_walk x y z p q r) refl

pub keys_speaks_dom_speaks : (n : Text) (x y z : Text) → IsPlainWord x → IsPlainWord y → IsPlainWord z → first_of (codes "speaks") (matches_of authsrv_app (n ∷ (codes "--keys") ∷ x ∷ (codes "--speaks") ∷ y ∷ (codes "--dom") ∷ z ∷ [])) ≡ Some y
keys_speaks_dom_speaks n x y z p q r = rw (keys_speaks_dom_walk x y z p q r) refl

pub keys_speaks_dom_dom : (n : Text) (x y z : Text) → IsPlainWord x → IsPlainWord y → IsPlainWord z → first_of (codes "dom") (matches_of authsrv_app (n ∷ (codes "--keys") ∷ x ∷ (codes "--speaks") ∷ y ∷ (codes "--dom") ∷ z ∷ [])) ≡ Some z
keys_speaks_dom_dom n x y z p q r = rw (keys_speaks_dom_walk x y z p q r) refl

-- ---- --speaks, --dom, --keys

speaks_dom_keys_1 : walked top.rules [] (walk_from nothing_held) (codes "--speaks") ≡ (at_option [] (codes "speaks"))
unfolding clap_on_literals
speaks_dom_keys_1 = refl

speaks_dom_keys_3 : (x : Text) → walked top.rules [] (behind [] (codes "speaks") x) (codes "--dom") ≡ (at_option (row (codes "speaks") x ∷ []) (codes "dom"))
unfolding clap_on_literals
speaks_dom_keys_3 x = refl

speaks_dom_keys_5 : (x y : Text) → walked top.rules [] (behind (row (codes "speaks") x ∷ []) (codes "dom") y) (codes "--keys") ≡ (at_option (row (codes "speaks") x ∷ row (codes "dom") y ∷ []) (codes "keys"))
unfolding clap_on_literals
speaks_dom_keys_5 x y = refl

speaks_dom_keys_t1 : turn_passes top [] (walk_from nothing_held) (codes "--speaks") ≡ true
unfolding clap_on_literals
speaks_dom_keys_t1 = refl

speaks_dom_keys_t3 : (x : Text) → turn_passes top [] (behind [] (codes "speaks") x) (codes "--dom") ≡ true
unfolding clap_on_literals
speaks_dom_keys_t3 x = refl

speaks_dom_keys_t5 : (x y : Text) → turn_passes top [] (behind (row (codes "speaks") x ∷ []) (codes "dom") y) (codes "--keys") ≡ true
unfolding clap_on_literals
speaks_dom_keys_t5 x y = refl

speaks_dom_keys_walk : (x y z : Text) → IsPlainWord x → IsPlainWord y → IsPlainWord z → walk top.rules [] nothing_held ((codes "--speaks") ∷ x ∷ (codes "--dom") ∷ y ∷ (codes "--keys") ∷ z ∷ []) ≡ (behind (row (codes "speaks") x ∷ row (codes "dom") y ∷ []) (codes "keys") z)
speaks_dom_keys_walk x y z p q r = rw (speaks_dom_keys_1, speaks_value [] x p, speaks_dom_keys_3 x, dom_value (row (codes "speaks") x ∷ []) y q, speaks_dom_keys_5 x y, keys_value (row (codes "speaks") x ∷ row (codes "dom") y ∷ []) z r) refl

speaks_dom_keys_pass : (x y z : Text) → IsPlainWord x → IsPlainWord y → IsPlainWord z → walk_passes top [] (walk_from nothing_held) ((codes "--speaks") ∷ x ∷ (codes "--dom") ∷ y ∷ (codes "--keys") ∷ z ∷ []) ≡ true
speaks_dom_keys_pass x y z p q r =
    pass_on top [] _ _ (codes "--speaks") _ speaks_dom_keys_t1 speaks_dom_keys_1
    (pass_on top [] _ _ x _ (speaks_turn [] x p) (speaks_value [] x p)
    (pass_on top [] _ _ (codes "--dom") _ (speaks_dom_keys_t3 x) (speaks_dom_keys_3 x)
    (pass_on top [] _ _ y _ (dom_turn (row (codes "speaks") x ∷ []) y q) (dom_value (row (codes "speaks") x ∷ []) y q)
    (pass_on top [] _ _ (codes "--keys") _ (speaks_dom_keys_t5 x y) (speaks_dom_keys_5 x y)
    (pass_on top [] _ _ z _ (keys_turn (row (codes "speaks") x ∷ row (codes "dom") y ∷ []) z r) (keys_value (row (codes "speaks") x ∷ row (codes "dom") y ∷ []) z r)
    (pass_end top [] _))))))

pub speaks_dom_keys_takes : (n : Text) (x y z : Text) → IsPlainWord x → IsPlainWord y → IsPlainWord z → takes authsrv_app (n ∷ (codes "--speaks") ∷ x ∷ (codes "--dom") ∷ y ∷ (codes "--keys") ∷ z ∷ []) ≡ true
speaks_dom_keys_takes n x y z p q r = rw (speaks_dom_keys_walk x y z p q r, speaks_dom_keys_pass x y z p q r) refl

pub speaks_dom_keys_speaks : (n : Text) (x y z : Text) → IsPlainWord x → IsPlainWord y → IsPlainWord z → first_of (codes "speaks") (matches_of authsrv_app (n ∷ (codes "--speaks") ∷ x ∷ (codes "--dom") ∷ y ∷ (codes "--keys") ∷ z ∷ [])) ≡ Some x
speaks_dom_keys_speaks n x y z p q r = rw (speaks_dom_keys_walk x y z p q r) refl

pub speaks_dom_keys_dom : (n : Text) (x y z : Text) → IsPlainWord x → IsPlainWord y → IsPlainWord z → first_of (codes "dom") (matches_of authsrv_app (n ∷ (codes "--speaks") ∷ x ∷ (codes "--dom") ∷ y ∷ (codes "--keys") ∷ z ∷ [])) ≡ Some y
speaks_dom_keys_dom n x y z p q r = rw (speaks_dom_keys_walk x y z p q r) refl

pub speaks_dom_keys_keys : (n : Text) (x y z : Text) → IsPlainWord x → IsPlainWord y → IsPlainWord z → first_of (codes "keys") (matches_of authsrv_app (n ∷ (codes "--speaks") ∷ x ∷ (codes "--dom") ∷ y ∷ (codes "--keys") ∷ z ∷ [])) ≡ Some z
speaks_dom_keys_keys n x y z p q r = rw (speaks_dom_keys_walk x y z p q r) refl

-- ---- --speaks, --keys, --dom

speaks_keys_dom_1 : walked top.rules [] (walk_from nothing_held) (codes "--speaks") ≡ (at_option [] (codes "speaks"))
unfolding clap_on_literals
speaks_keys_dom_1 = refl

speaks_keys_dom_3 : (x : Text) → walked top.rules [] (behind [] (codes "speaks") x) (codes "--keys") ≡ (at_option (row (codes "speaks") x ∷ []) (codes "keys"))
unfolding clap_on_literals
speaks_keys_dom_3 x = refl

speaks_keys_dom_5 : (x y : Text) → walked top.rules [] (behind (row (codes "speaks") x ∷ []) (codes "keys") y) (codes "--dom") ≡ (at_option (row (codes "speaks") x ∷ row (codes "keys") y ∷ []) (codes "dom"))
unfolding clap_on_literals
speaks_keys_dom_5 x y = refl

speaks_keys_dom_t1 : turn_passes top [] (walk_from nothing_held) (codes "--speaks") ≡ true
unfolding clap_on_literals
speaks_keys_dom_t1 = refl

speaks_keys_dom_t3 : (x : Text) → turn_passes top [] (behind [] (codes "speaks") x) (codes "--keys") ≡ true
unfolding clap_on_literals
speaks_keys_dom_t3 x = refl

speaks_keys_dom_t5 : (x y : Text) → turn_passes top [] (behind (row (codes "speaks") x ∷ []) (codes "keys") y) (codes "--dom") ≡ true
unfolding clap_on_literals
speaks_keys_dom_t5 x y = refl

speaks_keys_dom_walk : (x y z : Text) → IsPlainWord x → IsPlainWord y → IsPlainWord z → walk top.rules [] nothing_held ((codes "--speaks") ∷ x ∷ (codes "--keys") ∷ y ∷ (codes "--dom") ∷ z ∷ []) ≡ (behind (row (codes "speaks") x ∷ row (codes "keys") y ∷ []) (codes "dom") z)
speaks_keys_dom_walk x y z p q r = rw (speaks_keys_dom_1, speaks_value [] x p, speaks_keys_dom_3 x, keys_value (row (codes "speaks") x ∷ []) y q, speaks_keys_dom_5 x y, dom_value (row (codes "speaks") x ∷ row (codes "keys") y ∷ []) z r) refl

speaks_keys_dom_pass : (x y z : Text) → IsPlainWord x → IsPlainWord y → IsPlainWord z → walk_passes top [] (walk_from nothing_held) ((codes "--speaks") ∷ x ∷ (codes "--keys") ∷ y ∷ (codes "--dom") ∷ z ∷ []) ≡ true
speaks_keys_dom_pass x y z p q r =
    pass_on top [] _ _ (codes "--speaks") _ speaks_keys_dom_t1 speaks_keys_dom_1
    (pass_on top [] _ _ x _ (speaks_turn [] x p) (speaks_value [] x p)
    (pass_on top [] _ _ (codes "--keys") _ (speaks_keys_dom_t3 x) (speaks_keys_dom_3 x)
    (pass_on top [] _ _ y _ (keys_turn (row (codes "speaks") x ∷ []) y q) (keys_value (row (codes "speaks") x ∷ []) y q)
    (pass_on top [] _ _ (codes "--dom") _ (speaks_keys_dom_t5 x y) (speaks_keys_dom_5 x y)
    (pass_on top [] _ _ z _ (dom_turn (row (codes "speaks") x ∷ row (codes "keys") y ∷ []) z r) (dom_value (row (codes "speaks") x ∷ row (codes "keys") y ∷ []) z r)
    (pass_end top [] _))))))

pub speaks_keys_dom_takes : (n : Text) (x y z : Text) → IsPlainWord x → IsPlainWord y → IsPlainWord z → takes authsrv_app (n ∷ (codes "--speaks") ∷ x ∷ (codes "--keys") ∷ y ∷ (codes "--dom") ∷ z ∷ []) ≡ true
speaks_keys_dom_takes n x y z p q r = rw (speaks_keys_dom_walk x y z p q r, speaks_keys_dom_pass x y z p q r) refl

pub speaks_keys_dom_speaks : (n : Text) (x y z : Text) → IsPlainWord x → IsPlainWord y → IsPlainWord z → first_of (codes "speaks") (matches_of authsrv_app (n ∷ (codes "--speaks") ∷ x ∷ (codes "--keys") ∷ y ∷ (codes "--dom") ∷ z ∷ [])) ≡ Some x
speaks_keys_dom_speaks n x y z p q r = rw (speaks_keys_dom_walk x y z p q r) refl

pub speaks_keys_dom_keys : (n : Text) (x y z : Text) → IsPlainWord x → IsPlainWord y → IsPlainWord z → first_of (codes "keys") (matches_of authsrv_app (n ∷ (codes "--speaks") ∷ x ∷ (codes "--keys") ∷ y ∷ (codes "--dom") ∷ z ∷ [])) ≡ Some y
speaks_keys_dom_keys n x y z p q r = rw (speaks_keys_dom_walk x y z p q r) refl

pub speaks_keys_dom_dom : (n : Text) (x y z : Text) → IsPlainWord x → IsPlainWord y → IsPlainWord z → first_of (codes "dom") (matches_of authsrv_app (n ∷ (codes "--speaks") ∷ x ∷ (codes "--keys") ∷ y ∷ (codes "--dom") ∷ z ∷ [])) ≡ Some z
speaks_keys_dom_dom n x y z p q r = rw (speaks_keys_dom_walk x y z p q r) refl
