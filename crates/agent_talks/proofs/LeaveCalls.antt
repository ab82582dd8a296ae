-- The conversations of those who leave give up the connections that they keep, in the order in which they stand.
use Rattle.std.proofs.Common.{◌≡◌, ℕ, List, [], ◌∷◌, ◌++◌, map, filter, Bool, true, false, cond, eqb, not, ◌&&◌, ◌||◌, Option, refl, sym, ap, subst, ◌∙◌, append-nil, append_assoc}
use Rattle.std.specs.List.{list_any}
use Rattle.std.proofs.lemmas.Bool.{eqb-true, false≢true}
use Rattle.agent_history.specs.Deeds.{Deed, OfFids, OfConnection, Versioned, Clunked, Hung}
use Rattle.agent_history.specs.Conversations.{Drop, Speaker, drop_of, drops, keeps, raised, speakers, stands, talk}
use Rattle.agent_talks.specs.declared.speaker.Speaker.{Speaker as HeldSpeaker}
use Rattle.agent_talks.specs.declared.speaker.Leaving.{Leaving}
use Rattle.agent_talks.specs.declared.speaker.Leaving.TheVariants as l
use Rattle.agent_talks.specs.Kept.{leaves, speaker_of}
use Rattle.agent_talks.specs.Speaks.{is_among}
use Rattle.agent_talks.proofs.StandLemmas.{Apart, are_numbered, leaving, left_among, left_gone, left_stays, other_way}
use Rattle.agent_talks.specs.Calls.{Calls, ended, ended_if, is_kept, left}
use Rattle.agent_talks.specs.Keeps.{IsAlive, Keeps}
use Rattle.agent_talks.proofs.CallLemmas.{and_off, and_on, ended_drops, ended_others, ended_self, same}

-- ---- one after the other, of speakers as the definitions have them

abbrev parted : (Speaker → Bool) → ℕ → List Speaker → Calls → Calls
parted keep behind [] c = c
parted keep behind (s ∷ more) c = parted keep behind more (ended_if (not (keep s)) s.conv behind c)

parted_left : (who : Leaving) (keep : Speaker → Bool) (behind : ℕ) → ((s : HeldSpeaker) → keep (speaker_of s) ≡ not (leaves who s)) → (xs : List HeldSpeaker) (c : Calls) → left who behind xs c ≡ parted keep behind (map speaker_of xs) c
parted_left who keep behind every [] c = refl
parted_left who keep behind every (s ∷ xs) c =
    parted_left who keep behind every xs (ended_if (leaves who s) s.conv behind c)
    ∙ ap (λ (b : Bool). parted keep behind (map speaker_of xs) (ended_if b s.conv behind c)) (step (leaves who s) (keep (speaker_of s)) (every s))
  where
    step : (b k : Bool) → k ≡ not b → b ≡ not k
    step true k e = ap not (sym e)
    step false k e = ap not (sym e)

-- what each of them keeps then
one_kept : (c : Calls) (goes : Bool) (conv behind q : ℕ) → is_kept (ended_if goes conv behind c).kept q ≡ (is_kept c.kept q && not (goes && eqb conv q))
one_kept c false conv behind q = sym (and_on (is_kept c.kept q))
one_kept c true conv behind q = step (eqb conv q) refl
  where
    step : (b : Bool) → eqb conv q ≡ b → is_kept (ended conv behind c).kept q ≡ (is_kept c.kept q && not b)
    step true e = subst (λ (n : ℕ). is_kept (ended conv behind c).kept n ≡ false) (eqb-true conv q e) (ended_self c conv behind) ∙ sym (and_off (is_kept c.kept q))
    step false e = ended_others c conv behind q e ∙ sym (and_on (is_kept c.kept q))

parted_kept : (keep : Speaker → Bool) (behind : ℕ) (xs : List Speaker) (c : Calls) (q : ℕ) → is_kept (parted keep behind xs c).kept q ≡ (is_kept c.kept q && not (list_any (leaving keep q) xs))
parted_kept keep behind [] c q = sym (and_on (is_kept c.kept q))
parted_kept keep behind (s ∷ xs) c q =
    parted_kept keep behind xs (ended_if (not (keep s)) s.conv behind c) q
    ∙ (ap (λ (b : Bool). b && not (list_any (leaving keep q) xs)) (one_kept c (not (keep s)) s.conv behind q)
    ∙ both (is_kept c.kept q) (not (keep s) && eqb s.conv q) (list_any (leaving keep q) xs))
  where
    both : (a b c : Bool) → ((a && not b) && not c) ≡ (a && not (b || c))
    both true true c = refl
    both true false c = refl
    both false b c = refl

-- what is given up then
abbrev drop_at : ℕ → Speaker → Drop
drop_at behind s = record { conv = s.conv; behind = behind }

-- one who left is none of the others
others_alike : (keep : Speaker → Bool) (n : ℕ) (one two : List ℕ) → ((q : ℕ) → eqb n q ≡ false → is_kept one q ≡ is_kept two q) → (xs : List Speaker) → is_among xs n ≡ false
    → filter (λ s. not (keep s) && is_kept one s.conv) xs ≡ filter (λ s. not (keep s) && is_kept two s.conv) xs
others_alike keep n one two alike [] off = refl
others_alike keep n one two alike (s ∷ xs) off = here (eqb s.conv n) refl off (λ none. others_alike keep n one two alike xs none)
  where
    here : (b : Bool) → eqb s.conv n ≡ b → (b || is_among xs n) ≡ false → (is_among xs n ≡ false → filter (λ t. not (keep t) && is_kept one t.conv) xs ≡ filter (λ t. not (keep t) && is_kept two t.conv) xs)
        → filter (λ t. not (keep t) && is_kept one t.conv) (s ∷ xs) ≡ filter (λ t. not (keep t) && is_kept two t.conv) (s ∷ xs)
    here true e none more = absurd (false≢true (sym none))
    here false e none more =
        ap (λ (b : Bool). cond (not (keep s) && b) (s ∷ filter (λ t. not (keep t) && is_kept one t.conv) xs) (filter (λ t. not (keep t) && is_kept one t.conv) xs)) (alike s.conv (other_way s.conv n e))
        ∙ ap (λ (ys : List Speaker). cond (not (keep s) && is_kept two s.conv) (s ∷ ys) ys) (more none)

parted_drops : (keep : Speaker → Bool) (behind : ℕ) (xs : List Speaker) (c : Calls) → Apart xs → (parted keep behind xs c).drops ≡ c.drops ++ map (drop_at behind) (filter (λ s. not (keep s) && is_kept c.kept s.conv) xs)
parted_drops keep behind [] c apart = sym (append-nil c.drops)
parted_drops keep behind (s ∷ xs) c apart = here (keep s) (parted_drops keep behind xs c apart.1) (parted_drops keep behind xs (ended s.conv behind c) apart.1)
  where
    chosen : Calls → List Speaker
    chosen d = filter (λ t. not (keep t) && is_kept d.kept t.conv) xs

    append : (k : Bool) → cond k (c.drops ++ drop_at behind s ∷ []) c.drops ++ map (drop_at behind) (chosen c) ≡ c.drops ++ map (drop_at behind) (cond k (s ∷ chosen c) (chosen c))
    append true = append_assoc c.drops (drop_at behind s ∷ []) (map (drop_at behind) (chosen c))
    append false = refl

    gone : (ended s.conv behind c).drops ++ map (drop_at behind) (chosen (ended s.conv behind c)) ≡ c.drops ++ map (drop_at behind) (cond (is_kept c.kept s.conv) (s ∷ chosen c) (chosen c))
    gone =
        ap (λ (ys : List Speaker). (ended s.conv behind c).drops ++ map (drop_at behind) ys) (others_alike keep s.conv (ended s.conv behind c).kept c.kept (λ q off. ended_others c s.conv behind q off) xs apart.0)
        ∙ (ap (λ (ds : List Drop). ds ++ map (drop_at behind) (chosen c)) (ended_drops c s.conv behind) ∙ append (is_kept c.kept s.conv))

    here : (k : Bool) → (parted keep behind xs c).drops ≡ c.drops ++ map (drop_at behind) (chosen c) → (parted keep behind xs (ended s.conv behind c)).drops ≡ (ended s.conv behind c).drops ++ map (drop_at behind) (chosen (ended s.conv behind c))
        → (parted keep behind xs (ended_if (not k) s.conv behind c)).drops ≡ c.drops ++ map (drop_at behind) (cond (not k && is_kept c.kept s.conv) (s ∷ chosen c) (chosen c))
    here true stays leaves = stays
    here false stays leaves = leaves ∙ gone

-- ---- those who stay still stand

-- of each of some speakers this tells whether he stays
abbrev Matches : (Speaker → Bool) → (ℕ → Bool) → List Speaker → Type 0
Matches keep stays [] = Unit {0}
Matches keep stays (s ∷ xs) = (stays s.conv ≡ keep s) × Matches keep stays xs

matches_more : (keep : Speaker → Bool) (stays still : ℕ → Bool) (n : ℕ) → ((q : ℕ) → eqb n q ≡ false → still q ≡ stays q) → (xs : List Speaker) → is_among xs n ≡ false → Matches keep stays xs → Matches keep still xs
matches_more keep stays still n alike [] off m = tt
matches_more keep stays still n alike (s ∷ xs) off m = here (eqb s.conv n) refl off (λ none. matches_more keep stays still n alike xs none m.1)
  where
    here : (b : Bool) → eqb s.conv n ≡ b → (b || is_among xs n) ≡ false → (is_among xs n ≡ false → Matches keep still xs) → Matches keep still (s ∷ xs)
    here true e none more = absurd (false≢true (sym none))
    here false e none more = (alike s.conv (other_way s.conv n e) ∙ m.0, more none)

stay_matches : (keep : Speaker → Bool) (xs : List Speaker) → Apart xs → Matches keep (λ q. is_among (filter keep xs) q) xs
stay_matches keep [] apart = tt
stay_matches keep (s ∷ xs) apart =
    (self (keep s), matches_more keep (λ q. is_among (filter keep xs) q) (λ q. is_among (filter keep (s ∷ xs)) q) s.conv (λ q off. elsewhere (keep s) q off) xs apart.0 (stay_matches keep xs apart.1))
  where
    self : (k : Bool) → is_among (cond k (s ∷ filter keep xs) (filter keep xs)) s.conv ≡ k
    self true = rw (same s.conv) refl
    self false = left_among keep xs s.conv apart.0

    elsewhere : (k : Bool) (q : ℕ) → eqb s.conv q ≡ false → is_among (cond k (s ∷ filter keep xs) (filter keep xs)) q ≡ is_among (filter keep xs) q
    elsewhere true q off = rw off refl
    elsewhere false q off = refl

given_alike : (keep : Speaker → Bool) (kept keeps stays : ℕ → Bool) → ((q : ℕ) → kept q ≡ keeps q) → (xs : List Speaker) → Matches keep stays xs
    → filter (λ s. not (keep s) && kept s.conv) xs ≡ filter (λ s. keeps s.conv && not (keeps s.conv && stays s.conv)) xs
given_alike keep kept keeps stays alike [] m = refl
given_alike keep kept keeps stays alike (s ∷ xs) m =
    ap (λ (b : Bool). cond b (s ∷ filter (λ t. not (keep t) && kept t.conv) xs) (filter (λ t. not (keep t) && kept t.conv) xs)) (step (keep s) (kept s.conv) (keeps s.conv) (stays s.conv) (alike s.conv) m.0)
    ∙ ap (λ (ys : List Speaker). cond (keeps s.conv && not (keeps s.conv && stays s.conv)) (s ∷ ys) ys) (given_alike keep kept keeps stays alike xs m.1)
  where
    step : (k a b c : Bool) → a ≡ b → c ≡ k → (not k && a) ≡ (b && not (b && c))
    step k a true true e f = rw (e, ← f) refl
    step k a true false e f = rw (e, ← f) refl
    step k a false c e f = rw e (and_off (not k))

-- ---- of some among whom are all that leave

left_filtered : (who : Leaving) (behind : ℕ) (xs : List HeldSpeaker) (c : Calls) → left who behind (filter (λ s. leaves who s) xs) c ≡ left who behind xs c
left_filtered who behind [] c = refl
left_filtered who behind (s ∷ xs) c = step (leaves who s) refl (λ d. left_filtered who behind xs d)
  where
    step : (b : Bool) → leaves who s ≡ b → ((d : Calls) → left who behind (filter (λ t. leaves who t) xs) d ≡ left who behind xs d) → left who behind (cond b (s ∷ filter (λ t. leaves who t) xs) (filter (λ t. leaves who t) xs)) c ≡ left who behind xs (ended_if b s.conv behind c)
    step true is more = ap (λ (b : Bool). left who behind (filter (λ t. leaves who t) xs) (ended_if b s.conv behind c)) is ∙ more (ended s.conv behind c)
    step false is more = more c

pub left_alike : (who : Leaving) (behind : ℕ) (xs ys : List HeldSpeaker) (c : Calls) → filter (λ s. leaves who s) xs ≡ filter (λ s. leaves who s) ys → left who behind xs c ≡ left who behind ys c
left_alike who behind xs ys c e = sym (left_filtered who behind xs c) ∙ (ap (λ (zs : List HeldSpeaker). left who behind zs c) e ∙ left_filtered who behind ys c)

-- ---- what the deeds say

-- what is left of those that a relation of deeds tells of
record Parts (done after : List Deed) (keep : Speaker → Bool) : Type 0 where
  pub kept : (q : ℕ) → keeps after q ≡ (keeps done q && is_among (filter keep (speakers done)) q)
  pub standing : (q : ℕ) → stands after q ≡ is_among (filter keep (speakers done)) q
  pub talks : (q : ℕ) → talk after q ≡ talk done q
  pub given : drops after ≡ drops done ++ map (λ s. drop_of done s.conv) (filter (λ s. keeps done s.conv && not (keeps done s.conv && is_among (filter keep (speakers done)) s.conv)) (speakers done))

parted_keeps : (done after : List Deed) (keep : Speaker → Bool) (c : Calls) → Parts done after keep → Keeps done c → Keeps after (parted keep (raised done) (speakers done) c)
parted_keeps done after keep c p k = record {
  kept = λ q. parted_kept keep (raised done) (speakers done) c q ∙ (ap (λ (b : Bool). b && not (list_any (leaving keep q) (speakers done))) (k.kept q) ∙ (here q (keeps done q) refl (list_any (leaving keep q) (speakers done)) refl ∙ sym (p.kept q)));
  drops = parted_drops keep (raised done) (speakers done) c apart
      ∙ (ap (λ (ds : List Drop). ds ++ map (drop_at (raised done)) (filter (λ s. not (keep s) && is_kept c.kept s.conv) (speakers done))) k.drops
      ∙ (ap (λ (ss : List Speaker). drops done ++ map (drop_at (raised done)) ss) (given_alike keep (λ q. is_kept c.kept q) (λ q. keeps done q) (λ q. is_among (filter keep (speakers done)) q) k.kept (speakers done) (stay_matches keep (speakers done) apart))
      ∙ sym p.given));
  alive = λ q e. lives q (keeps done q) refl (is_among (filter keep (speakers done)) q) refl (sym (p.kept q) ∙ e);
}
  where
    apart : Apart (speakers done)
    apart = (are_numbered done).apart

    here : (q : ℕ) (b : Bool) → keeps done q ≡ b → (goes : Bool) → list_any (leaving keep q) (speakers done) ≡ goes → (b && not goes) ≡ (b && is_among (filter keep (speakers done)) q)
    here q false keeping goes e = refl
    here q true keeping true e = sym (left_gone keep (speakers done) q apart e)
    here q true keeping false e = sym (left_stays keep (speakers done) q e ∙ (k.alive q keeping).stands)

    lives : (q : ℕ) (b : Bool) → keeps done q ≡ b → (stays : Bool) → is_among (filter keep (speakers done)) q ≡ stays → (b && stays) ≡ true → IsAlive after q
    lives q true keeping true there e =
        let was = k.alive q keeping in
        record { stands = p.standing q ∙ there; runs = rw (p.talks q) was.runs }
    lives q true keeping false there e = absurd (false≢true e)
    lives q false keeping stays there e = absurd (false≢true e)

left_keeps : (done after : List Deed) (who : Leaving) (keep : Speaker → Bool) → ((s : HeldSpeaker) → keep (speaker_of s) ≡ not (leaves who s)) → Parts done after keep
    → (behind : ℕ) (xs : List HeldSpeaker) (c new : Calls) → behind ≡ raised done → map speaker_of xs ≡ speakers done → new ≡ left who behind xs c → Keeps done c → Keeps after new
left_keeps done after who keep every p behind xs c new b e f k =
    subst (λ (d : Calls). Keeps after d)
    (sym (f ∙ (parted_left who keep behind every xs c ∙ (ap (λ (ss : List Speaker). parted keep behind ss c) e ∙ ap (λ (n : ℕ). parted keep n (speakers done) c) b))))
    (parted_keeps done after keep c p k)

pub clunked_keeps : (done : List Deed) (conn fid behind : ℕ) (xs : List HeldSpeaker) (c new : Calls) → behind ≡ raised done → map speaker_of xs ≡ speakers done → new ≡ left (l.Fid conn fid) behind xs c → Keeps done c → Keeps (OfFids conn (Clunked fid) ∷ done) new
clunked_keeps done conn fid behind xs c new b e f k =
    left_keeps done (OfFids conn (Clunked fid) ∷ done) (l.Fid conn fid) (λ s. not (eqb s.conn conn && eqb s.fid fid)) (λ s. refl)
    (record { kept = λ q. refl; standing = λ q. refl; talks = λ q. refl; given = refl }) behind xs c new b e f k

pub versioned_keeps : (done : List Deed) (conn : ℕ) (msize : Option ℕ) (behind : ℕ) (xs : List HeldSpeaker) (c new : Calls) → behind ≡ raised done → map speaker_of xs ≡ speakers done → new ≡ left (l.Connection conn) behind xs c → Keeps done c → Keeps (OfFids conn (Versioned msize) ∷ done) new
versioned_keeps done conn msize behind xs c new b e f k =
    left_keeps done (OfFids conn (Versioned msize) ∷ done) (l.Connection conn) (λ s. not (eqb s.conn conn)) (λ s. refl)
    (record { kept = λ q. refl; standing = λ q. refl; talks = λ q. refl; given = refl }) behind xs c new b e f k

pub hung_keeps : (done : List Deed) (conn behind : ℕ) (xs : List HeldSpeaker) (c new : Calls) → behind ≡ raised done → map speaker_of xs ≡ speakers done → new ≡ left (l.Connection conn) behind xs c → Keeps done c → Keeps (OfConnection conn Hung ∷ done) new
hung_keeps done conn behind xs c new b e f k =
    left_keeps done (OfConnection conn Hung ∷ done) (l.Connection conn) (λ s. not (eqb s.conn conn)) (λ s. refl)
    (record { kept = λ q. refl; standing = λ q. refl; talks = λ q. refl; given = refl }) behind xs c new b e f k
