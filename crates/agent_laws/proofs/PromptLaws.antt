-- Questions to users: each is of a conversation that stands and waits for the reply, and no two of a kind are of one
-- conversation, whatever deed comes that fits.
use Rattle.std.proofs.Common.{◌≡◌, ◌+◌, ℕ, List, [], ◌∷◌, ◌++◌, map, drop, Bool, true, false, cond, eqb, ◌&&◌, ◌||◌, not, Some, refl, sym, ap, subst, ◌∙◌, append_assoc}
use Rattle.std.specs.List.{filter, list_all, list_any}
use Rattle.std.proofs.lemmas.Bool.{and_from, and_parts, eq-eqb, eqb-true, or_parts}
use Rattle.std.proofs.lemmas.List.{append-nil, map-append}
use Rattle.attr_tuples.proofs.EqualityLemmas.{eqb_swap}
use Rattle.side_files.specs.declared.line.PromptKind.{PromptKind}
use Rattle.side_files.specs.declared.line.PromptKind.TheVariants as k
use Rattle.side_files.specs.declared.prompt.Prompt.{Prompt}
use Rattle.side_files.specs.declared.prompt.Asker.{Asker}
use Rattle.side_files.specs.Askers.{asker_in, without_asked, without_conv, without_tag}
use Rattle.side_files.specs.Questions.{Questions, asked_by, asker, asker_of, opens, prompt, read, replied, withdrawn}
use Rattle.side_files.specs.Questions as asked
use Rattle.side_files.specs.Calls as side
use Rattle.talks.specs.Calls as calls
use Rattle.talks.specs.Standings.{Phase, Resting, Waiting, Seeking, OnConfirm, OnNeedkey, OnServer, Kept, Standing, standing, then_stands}
use Rattle.agent_history.specs.Deeds.{Deed, OfFids, OfKeys, OfReplies, OfConnection, OfTalk, OfPrompts, OfLog, Raised, HandedOut, DropTaken, Swept, Halted, Versioned, Attached, Walked, Opened, Listed, Browsed, Clunked, Entered, Hung, fid_of, names}
use Rattle.file_tree.specs.declared.tree.Node.TheVariants.{Rpc}
use Rattle.agent_history.specs.SideFiles.{askers, prompt_calls, prompts_of}
use Rattle.agent_history.specs.Conversations.{Speaker, opened_talks, speakers, standing_of, stands, talk}
use Rattle.agent_laws.specs.Laws.{all_prompted, asks_user, each_once, waits_on}
use Rattle.agent_laws.proofs.AskLaws.{all_weaker, or_more}
use Rattle.agent_laws.proofs.KindLaws.{KeepsOf, is_done}

-- ---- lists of numbers, some of which are left out

pub data Within : List ℕ → List ℕ → Type 0 where
  nil : Within [] []
  kept : (n : ℕ) {xs ys : List ℕ} → Within xs ys → Within (n ∷ xs) (n ∷ ys)
  left : (n : ℕ) {xs ys : List ℕ} → Within xs ys → Within xs (n ∷ ys)

within_itself : (xs : List ℕ) → Within xs xs
within_itself [] = nil
within_itself (n ∷ xs) = kept n (within_itself xs)

within_append : {xs ys : List ℕ} (zs : List ℕ) → Within xs ys → Within (xs ++ zs) (ys ++ zs)
within_append zs nil = within_itself zs
within_append zs (kept n w) = kept n (within_append zs w)
within_append zs (left n w) = left n (within_append zs w)

within_all : (p : ℕ → Bool) {xs ys : List ℕ} → Within xs ys → list_all p ys ≡ true → list_all p xs ≡ true
within_all p nil h = refl
within_all p (kept n w) h = let parts = and_parts (p n) _ h in and_from (p n) _ parts.0 (within_all p w parts.1)
within_all p (left n w) h = within_all p w (and_parts (p n) _ h).1

pub within_any : (p : ℕ → Bool) {xs ys : List ℕ} → Within xs ys → list_any p ys ≡ false → list_any p xs ≡ false
within_any p nil h = refl
within_any p (kept n w) h = let parts = or_parts (p n) _ h in rw parts.0 (within_any p w parts.1)
within_any p (left n w) h = within_any p w (or_parts (p n) _ h).1

not_any : (b : Bool) → not b ≡ true → b ≡ false
not_any true e = absurd cc
not_any false e = refl

within_once : {xs ys : List ℕ} → Within xs ys → each_once ys ≡ true → each_once xs ≡ true
within_once nil h = refl
within_once (kept n {xs} {ys} w) h =
    let parts = and_parts (not (list_any (eqb n) ys)) (each_once ys) h in
    rw (within_any (eqb n) w (not_any (list_any (eqb n) ys) parts.0)) (within_once w parts.1)
within_once (left n {xs} {ys} w) h = within_once w (and_parts (not (list_any (eqb n) ys)) (each_once ys) h).1

-- one more at the end that isn't there yet
any_append : (p : ℕ → Bool) (xs : List ℕ) (n : ℕ) → list_any p xs ≡ false → p n ≡ false → list_any p (xs ++ n ∷ []) ≡ false
any_append p [] n h e = rw e refl
any_append p (m ∷ xs) n h e = let parts = or_parts (p m) (list_any p xs) h in rw parts.0 (any_append p xs n parts.1 e)

once_append : (xs : List ℕ) (n : ℕ) → each_once xs ≡ true → list_any (eqb n) xs ≡ false → each_once (xs ++ n ∷ []) ≡ true
once_append [] n h e = refl
once_append (m ∷ xs) n h e =
    let parts = and_parts (not (list_any (eqb m) xs)) (each_once xs) h in
    let off = or_parts (eqb n m) (list_any (eqb n) xs) e in
    rw (any_append (eqb m) xs n (not_any (list_any (eqb m) xs) parts.0) (eqb_swap m n ∙ off.0)) (once_append xs n parts.1 off.1)

all_append : (p : ℕ → Bool) (xs : List ℕ) (n : ℕ) → list_all p xs ≡ true → p n ≡ true → list_all p (xs ++ n ∷ []) ≡ true
all_append p [] n h e = rw e refl
all_append p (m ∷ xs) n h e = let parts = and_parts (p m) (list_all p xs) h in and_from (p m) _ parts.0 (all_append p xs n parts.1 e)

all_both : (p q : ℕ → Bool) (xs : List ℕ) → list_all p xs ≡ true → list_all q xs ≡ true → list_all (λ n. p n && q n) xs ≡ true
all_both p q [] h f = refl
all_both p q (n ∷ xs) h f =
    let one = and_parts (p n) (list_all p xs) h in
    let other = and_parts (q n) (list_all q xs) f in
    and_from (p n && q n) _ (and_from (p n) (q n) one.0 other.0) (all_both p q xs one.1 other.1)

all_but : (p q r : ℕ → Bool) (xs : List ℕ) → ((n : ℕ) → p n ≡ true → r n ≡ false → q n ≡ true) → list_all p xs ≡ true → list_any r xs ≡ false → list_all q xs ≡ true
all_but p q r [] f h off = refl
all_but p q r (n ∷ xs) f h off =
    let one = and_parts (p n) (list_all p xs) h in
    let other = or_parts (r n) (list_any r xs) off in
    and_from (q n) (list_all q xs) (f n one.0 other.0) (all_but p q r xs f one.1 other.1)

-- where all are so that this one isn't, it isn't there
absent_step : (p : ℕ → Bool) (n m : ℕ) (b : Bool) → eqb n m ≡ b → p m ≡ true → p n ≡ false → b ≡ false
absent_step p n m true e h off = absurd (let no_way : true ≡ false = sym h ∙ ap p (sym (eqb-true n m e)) ∙ off in cc)
absent_step p n m false e h off = refl

absent : (p : ℕ → Bool) (n : ℕ) (xs : List ℕ) → list_all p xs ≡ true → p n ≡ false → list_any (eqb n) xs ≡ false
absent p n [] h off = refl
absent p n (m ∷ xs) h off =
    let parts = and_parts (p m) (list_all p xs) h in
    rw (absent_step p n m (eqb n m) refl parts.0 off) (absent p n xs parts.1 off)

pub all_members : (p : ℕ → Bool) (xs : List ℕ) → ((n : ℕ) → list_any (eqb n) xs ≡ true → p n ≡ true) → list_all p xs ≡ true
all_members p [] f = refl
all_members p (n ∷ xs) f =
    and_from (p n) (list_all p xs) (f n (let itself : eqb n n ≡ true = eq-eqb n n refl in rw itself refl))
    (all_members p xs (λ m e. f m (or_more (eqb m n) (list_any (eqb m) xs) e)))

-- ---- lists of questions

abbrev convs : List Asker → List ℕ
convs askers = map (λ a. a.conv) askers

abbrev pub askers_in : Questions → List ℕ
askers_in q = convs (asked.standing q)

kept_step : (b : Bool) (a : Asker) (xs ys : List Asker) → Within (convs xs) (convs ys) → Within (convs (cond b (a ∷ xs) xs)) (a.conv ∷ convs ys)
kept_step true a xs ys w = kept a.conv w
kept_step false a xs ys w = left a.conv w

kept_within : (keep : Asker → Bool) (xs : List Asker) → Within (convs (filter keep xs)) (convs xs)
kept_within keep [] = nil
kept_within keep (a ∷ xs) = kept_step (keep a) a (filter keep xs) xs (kept_within keep xs)

pub asked_more : (conv : ℕ) (line : List ℕ) (q : Questions) → askers_in (asked_by conv line q) ≡ askers_in q ++ conv ∷ []
asked_more conv line q =
    ap (λ (ws : List Asker). convs (q.opened ++ ws)) (map-append asker q.unread (prompt (q.asked + 1) conv line ∷ []))
    ∙ ap convs (sym (append_assoc q.opened (map asker q.unread) (asker (prompt (q.asked + 1) conv line) ∷ [])))
    ∙ map-append (λ (a : Asker). a.conv) (q.opened ++ map asker q.unread) (asker (prompt (q.asked + 1) conv line) ∷ [])

pub read_lists : (opened : List Asker) (unread : List Prompt) → (opened ++ opens unread) ++ map asker (drop 1 unread) ≡ opened ++ map asker unread
read_lists opened [] = append-nil (opened ++ [])
read_lists opened (p ∷ unread) = append_assoc opened (asker p ∷ []) (map asker unread)

pub read_same : (q : Questions) → askers_in (read q) ≡ askers_in q
read_same q = ap convs (read_lists q.opened q.unread)

replied_within : (tag : ℕ) (q : Questions) → Within (askers_in (replied tag q)) (askers_in q)
replied_within tag q =
    subst (λ (ns : List ℕ). Within ns (askers_in q)) (sym (map-append (λ (a : Asker). a.conv) (without_tag tag q.opened) (map asker q.unread)))
    (subst (λ (ns : List ℕ). Within (convs (without_tag tag q.opened) ++ convs (map asker q.unread)) ns) (sym (map-append (λ (a : Asker). a.conv) q.opened (map asker q.unread)))
    (within_append (convs (map asker q.unread)) (kept_within (λ a. not (eqb a.tag tag)) q.opened)))

-- the questions of a conversation left out of a list
abbrev others : ℕ → List Asker → List Asker
others conv ws = filter (λ (a : Asker). not (eqb a.conv conv)) ws

unread_step : (b : Bool) (p : Prompt) (rest : List Prompt) (ws : List Asker) → map asker rest ≡ ws → map asker (cond (not b) (p ∷ rest) rest) ≡ cond (not b) (asker p ∷ ws) ws
unread_step true p rest ws e = e
unread_step false p rest ws e = ap (λ (xs : List Asker). asker p ∷ xs) e

unread_others : (conv : ℕ) (unread : List Prompt) → map asker (without_asked conv unread) ≡ others conv (map asker unread)
unread_others conv [] = refl
unread_others conv (p ∷ unread) = unread_step (eqb p.conv conv) p (without_asked conv unread) (others conv (map asker unread)) (unread_others conv unread)

append_step : (b : Bool) (a : Asker) (all xs ys : List Asker) → all ≡ xs ++ ys → cond (not b) (a ∷ all) all ≡ cond (not b) (a ∷ xs) xs ++ ys
append_step true a all xs ys e = e
append_step false a all xs ys e = ap (λ (ws : List Asker). a ∷ ws) e

others_append : (conv : ℕ) (xs ys : List Asker) → others conv (xs ++ ys) ≡ others conv xs ++ others conv ys
others_append conv [] ys = refl
others_append conv (a ∷ xs) ys = append_step (eqb a.conv conv) a (others conv (xs ++ ys)) (others conv xs) (others conv ys) (others_append conv xs ys)

pub withdrawn_others : (conv : ℕ) (q : Questions) → asked.standing (withdrawn conv q) ≡ others conv (asked.standing q)
withdrawn_others conv q = ap (λ (ws : List Asker). without_conv conv q.opened ++ ws) (unread_others conv q.unread) ∙ sym (others_append conv q.opened (map asker q.unread))

pub withdrawn_within : (conv : ℕ) (q : Questions) → Within (askers_in (withdrawn conv q)) (askers_in q)
withdrawn_within conv q = subst (λ (ws : List Asker). Within (convs ws) (askers_in q)) (sym (withdrawn_others conv q)) (kept_within (λ a. not (eqb a.conv conv)) (asked.standing q))

none_step : (conv : ℕ) (a : Asker) (ws : List Asker) (b : Bool) → eqb a.conv conv ≡ b → list_any (eqb conv) (convs ws) ≡ false → list_any (eqb conv) (convs (cond (not b) (a ∷ ws) ws)) ≡ false
none_step conv a ws true e h = h
none_step conv a ws false e h = rw (eqb_swap conv a.conv ∙ e) h

others_none : (conv : ℕ) (ws : List Asker) → list_any (eqb conv) (convs (others conv ws)) ≡ false
others_none conv [] = refl
others_none conv (a ∷ ws) = none_step conv a (others conv ws) (eqb a.conv conv) refl (others_none conv ws)

-- a conversation whose questions are withdrawn has none
pub withdrawn_none : (conv : ℕ) (q : Questions) → list_any (eqb conv) (askers_in (withdrawn conv q)) ≡ false
withdrawn_none conv q = ap (λ (ws : List Asker). list_any (eqb conv) (convs ws)) (withdrawn_others conv q) ∙ others_none conv (asked.standing q)

-- the one that asked under a tag is among them
under_step : (tag conv : ℕ) (a : Asker) (ws : List Asker) (b : Bool) → cond b (Some a.conv) (asker_in tag ws) ≡ Some conv → (asker_in tag ws ≡ Some conv → list_any (eqb conv) (convs ws) ≡ true) → (eqb conv a.conv || list_any (eqb conv) (convs ws)) ≡ true
under_step tag conv a ws true e more = let same : a.conv ≡ conv = cc in rw (eq-eqb conv a.conv (sym same)) refl
under_step tag conv a ws false e more = or_more (eqb conv a.conv) _ (more e)

is_under : (tag conv : ℕ) (ws : List Asker) → asker_in tag ws ≡ Some conv → list_any (eqb conv) (convs ws) ≡ true
is_under tag conv [] e = absurd cc
is_under tag conv (a ∷ ws) e = under_step tag conv a ws (eqb a.tag tag) e (is_under tag conv ws)

front_step : (b c d : Bool) → (b || c) ≡ true → (c ≡ true → d ≡ true) → (b || d) ≡ true
front_step true c d e f = refl
front_step false c d e f = f e

any_front : (p : ℕ → Bool) (xs ys : List ℕ) → list_any p xs ≡ true → list_any p (xs ++ ys) ≡ true
any_front p [] ys e = absurd cc
any_front p (n ∷ xs) ys e = front_step (p n) (list_any p xs) (list_any p (xs ++ ys)) e (any_front p xs ys)

-- behind its reply it has no question: no other is of it
apart_step : (conv n : ℕ) (ns : List ℕ) (b : Bool) → eqb conv n ≡ b → list_any (eqb n) ns ≡ false → list_any (eqb conv) ns ≡ true → b ≡ false
apart_step conv n ns true e off there = absurd (let no_way : true ≡ false = sym there ∙ ap (λ (m : ℕ). list_any (eqb m) ns) (eqb-true conv n e) ∙ off in cc)
apart_step conv n ns false e off there = refl

gone_step : (tag conv : ℕ) (a : Asker) (ws : List Asker) (rest : List ℕ) (b : Bool) → cond b (Some a.conv) (asker_in tag ws) ≡ Some conv → list_any (eqb a.conv) (convs ws ++ rest) ≡ false → Within (convs (without_tag tag ws) ++ rest) (convs ws ++ rest)
    → (asker_in tag ws ≡ Some conv → list_any (eqb conv) (convs (without_tag tag ws) ++ rest) ≡ false) → list_any (eqb conv) (convs (cond (not b) (a ∷ without_tag tag ws) (without_tag tag ws)) ++ rest) ≡ false
gone_step tag conv a ws rest true e off within more = let same : a.conv ≡ conv = cc in within_any (eqb conv) within (ap (λ (n : ℕ). list_any (eqb n) (convs ws ++ rest)) (sym same) ∙ off)
gone_step tag conv a ws rest false e off within more =
    let there = any_front (eqb conv) (convs ws) rest (is_under tag conv ws e) in
    rw (apart_step conv a.conv (convs ws ++ rest) (eqb conv a.conv) refl off there) (more e)

under_gone : (tag conv : ℕ) (ws : List Asker) (rest : List ℕ) → asker_in tag ws ≡ Some conv → each_once (convs ws ++ rest) ≡ true → list_any (eqb conv) (convs (without_tag tag ws) ++ rest) ≡ false
under_gone tag conv [] rest e h = absurd cc
under_gone tag conv (a ∷ ws) rest e h =
    let parts = and_parts (not (list_any (eqb a.conv) (convs ws ++ rest))) (each_once (convs ws ++ rest)) h in
    gone_step tag conv a ws rest (eqb a.tag tag) e (not_any _ parts.0) (within_append rest (kept_within (λ x. not (eqb x.tag tag)) ws)) (λ f. under_gone tag conv ws rest f parts.1)

pub replied_none : (tag conv : ℕ) (q : Questions) → asker_of tag q ≡ Some conv → each_once (askers_in q) ≡ true → list_any (eqb conv) (askers_in (replied tag q)) ≡ false
replied_none tag conv q e h =
    ap (list_any (eqb conv)) (map-append (λ (a : Asker). a.conv) (without_tag tag q.opened) (map asker q.unread))
    ∙ under_gone tag conv q.opened (convs (map asker q.unread)) e (ap each_once (sym (map-append (λ (a : Asker). a.conv) q.opened (map asker q.unread))) ∙ h)

there_step : (p : ℕ → Bool) (n m : ℕ) (b c : Bool) → eqb n m ≡ b → (b || c) ≡ true → p m ≡ true → (c ≡ true → p n ≡ true) → p n ≡ true
there_step p n m true c f g here more = ap p (eqb-true n m f) ∙ here
there_step p n m false c f g here more = more g

pub all_there : (p : ℕ → Bool) (n : ℕ) (xs : List ℕ) → list_all p xs ≡ true → list_any (eqb n) xs ≡ true → p n ≡ true
all_there p n [] h e = absurd cc
all_there p n (m ∷ xs) h e = let parts = and_parts (p m) (list_all p xs) h in there_step p n m (eqb n m) (list_any (eqb n) xs) refl e parts.0 (all_there p n xs parts.1)

-- ---- the questions of a history

abbrev pub waits_so : List Deed → PromptKind → ℕ → Bool
waits_so done kind conv = stands done conv && waits_on kind (standing_of done conv).phase

abbrev pub Prompted : List Deed → Type 0
Prompted done = (kind : PromptKind) → all_prompted done kind ≡ true

parts_of : (done : List Deed) (kind : PromptKind) → all_prompted done kind ≡ true → (list_all (waits_so done kind) (askers done kind) ≡ true) × (each_once (askers done kind) ≡ true)
parts_of done kind h = and_parts (list_all (waits_so done kind) (askers done kind)) (each_once (askers done kind)) h

-- who asked under a tag stands and waits for the reply
pub asker_waits : (done : List Deed) (kind : PromptKind) (tag conv : ℕ) → asker_of tag (prompts_of done kind) ≡ Some conv → all_prompted done kind ≡ true → waits_so done kind conv ≡ true
asker_waits done kind tag conv e h =
    let q = prompts_of done kind in
    let there : list_any (eqb conv) (askers_in q) ≡ true = ap (list_any (eqb conv)) (map-append (λ (a : Asker). a.conv) q.opened (map asker q.unread)) ∙ any_front (eqb conv) (convs q.opened) (convs (map asker q.unread)) (is_under tag conv q.opened e) in
    all_there (waits_so done kind) conv (askers done kind) (parts_of done kind h).0 there

-- who doesn't wait for one has no question
and_false : (a b : Bool) → b ≡ false → (a && b) ≡ false
and_false true b e = e
and_false false b e = refl

pub asks_nobody : (done : List Deed) (kind : PromptKind) (conv : ℕ) → all_prompted done kind ≡ true → waits_on kind (standing_of done conv).phase ≡ false → asks_user done kind conv ≡ false
asks_nobody done kind conv h off = absent (waits_so done kind) conv (askers done kind) (parts_of done kind h).0 (and_false (stands done conv) _ off)

-- ---- every deed

-- a call that is no reply leaves a conversation waiting for one
abbrev is_reply : calls.Call → Bool
is_reply (calls.Consented agrees) = true
is_reply calls.KeyTold = true
is_reply calls.Shut = true
is_reply call = false

confirm_stays : (call : calls.Call) (s : Standing) (ph : Phase) → s.phase ≡ ph → is_reply call ≡ false → waits_on k.Confirm ph ≡ true → waits_on k.Confirm (then_stands s ph call).phase ≡ true
confirm_stays call s Resting e other w = absurd cc
confirm_stays call s (Waiting request) e other w = absurd cc
confirm_stays call s Seeking e other w = absurd cc
confirm_stays call s OnNeedkey e other w = absurd cc
confirm_stays call s OnServer e other w = absurd cc
confirm_stays call s (Kept answer) e other w = absurd cc
confirm_stays (calls.Consented agrees) s (OnConfirm serial) e other w = absurd cc
confirm_stays calls.KeyTold s (OnConfirm serial) e other w = absurd cc
confirm_stays calls.Shut s (OnConfirm serial) e other w = absurd cc
confirm_stays (calls.Stored request) s (OnConfirm serial) e other w = ap (waits_on k.Confirm) e
confirm_stays (calls.CarriedOut word) s (OnConfirm serial) e other w = ap (waits_on k.Confirm) e
confirm_stays (calls.Sought found) s (OnConfirm serial) e other w = ap (waits_on k.Confirm) e
confirm_stays (calls.Heard bytes) s (OnConfirm serial) e other w = ap (waits_on k.Confirm) e
confirm_stays calls.Unheard s (OnConfirm serial) e other w = ap (waits_on k.Confirm) e
confirm_stays calls.Roomless s (OnConfirm serial) e other w = ap (waits_on k.Confirm) e
confirm_stays calls.Took s (OnConfirm serial) e other w = ap (waits_on k.Confirm) e

needkey_stays : (call : calls.Call) (s : Standing) (ph : Phase) → s.phase ≡ ph → is_reply call ≡ false → waits_on k.Needkey ph ≡ true → waits_on k.Needkey (then_stands s ph call).phase ≡ true
needkey_stays call s Resting e other w = absurd cc
needkey_stays call s (Waiting request) e other w = absurd cc
needkey_stays call s Seeking e other w = absurd cc
needkey_stays call s (OnConfirm serial) e other w = absurd cc
needkey_stays call s OnServer e other w = absurd cc
needkey_stays call s (Kept answer) e other w = absurd cc
needkey_stays (calls.Consented agrees) s OnNeedkey e other w = absurd cc
needkey_stays calls.KeyTold s OnNeedkey e other w = absurd cc
needkey_stays calls.Shut s OnNeedkey e other w = absurd cc
needkey_stays (calls.Stored request) s OnNeedkey e other w = ap (waits_on k.Needkey) e
needkey_stays (calls.CarriedOut word) s OnNeedkey e other w = ap (waits_on k.Needkey) e
needkey_stays (calls.Sought found) s OnNeedkey e other w = ap (waits_on k.Needkey) e
needkey_stays (calls.Heard bytes) s OnNeedkey e other w = ap (waits_on k.Needkey) e
needkey_stays calls.Unheard s OnNeedkey e other w = ap (waits_on k.Needkey) e
needkey_stays calls.Roomless s OnNeedkey e other w = ap (waits_on k.Needkey) e
needkey_stays calls.Took s OnNeedkey e other w = ap (waits_on k.Needkey) e

stays : (kind : PromptKind) (call : calls.Call) (s : Standing) → is_reply call ≡ false → waits_on kind s.phase ≡ true → waits_on kind (then_stands s s.phase call).phase ≡ true
stays k.Confirm call s other w = confirm_stays call s s.phase refl other w
stays k.Needkey call s other w = needkey_stays call s s.phase refl other w

talk_stays : (done : List Deed) (kind : PromptKind) (conv : ℕ) (call : calls.Call) (other : ℕ) (b : Bool) → (b ≡ true → is_reply call ≡ false) → waits_on kind (standing (talk done other)).phase ≡ true
    → waits_on kind (standing (cond b (call ∷ talk done other) (talk done other))).phase ≡ true
talk_stays done kind conv call other true plain h = stays kind call (standing (talk done other)) (plain refl) h
talk_stays done kind conv call other false plain h = h

-- a call of a conversation
call_more : (done : List Deed) (conv : ℕ) (call : calls.Call) → is_reply call ≡ false → Prompted done → Prompted (OfTalk conv call ∷ done)
call_more done conv call plain h kind =
    let parts = parts_of done kind (h kind) in
    and_from _ (each_once (askers done kind))
    (all_weaker (waits_so done kind) (waits_so (OfTalk conv call ∷ done) kind) (askers done kind)
    (λ n e. let both = and_parts (stands done n) (waits_on kind (standing_of done n).phase) e in and_from (stands done n) _ both.0 (talk_stays done kind conv call n (eqb conv n) (λ _. plain) both.1)) parts.0)
    parts.1

-- one that is a reply, where the conversation has no question any more
reply_more : (done : List Deed) (conv : ℕ) (call : calls.Call) → ((kind : PromptKind) → asks_user done kind conv ≡ false) → Prompted done → Prompted (OfTalk conv call ∷ done)
reply_more done conv call off h kind =
    let parts = parts_of done kind (h kind) in
    and_from _ (each_once (askers done kind))
    (all_but (waits_so done kind) (waits_so (OfTalk conv call ∷ done) kind) (eqb conv) (askers done kind)
    (λ n e apart. let both = and_parts (stands done n) (waits_on kind (standing_of done n).phase) e in and_from (stands done n) _ both.0 (talk_stays done kind conv call n (eqb conv n) (λ same. absurd (let no_way : true ≡ false = sym same ∙ apart in cc)) both.1)) parts.0 (off kind))
    parts.1

-- a deed after which the askers stand, and nothing else has changed
pub stand_more : (done : List Deed) (deed : Deed) → ((kind : PromptKind) → askers (deed ∷ done) kind ≡ askers done kind) → ((n : ℕ) → standing_of (deed ∷ done) n ≡ standing_of done n)
    → ((kind : PromptKind) → list_all (stands (deed ∷ done)) (askers done kind) ≡ true) → Prompted done → Prompted (deed ∷ done)
stand_more done deed same still there h kind =
    let parts = parts_of done kind (h kind) in
    let wait = all_weaker (waits_so done kind) (λ n. waits_on kind (standing_of (deed ∷ done) n).phase) (askers done kind) (λ n e. ap (λ (s : Standing). waits_on kind s.phase) (still n) ∙ (and_parts (stands done n) (waits_on kind (standing_of done n).phase) e).1) parts.0 in
    let all : list_all (waits_so (deed ∷ done) kind) (askers done kind) ≡ true = all_both (stands (deed ∷ done)) (λ n. waits_on kind (standing_of (deed ∷ done) n).phase) (askers done kind) (there kind) wait in
    subst (λ (ns : List ℕ). (list_all (waits_so (deed ∷ done) kind) ns && each_once ns) ≡ true) (sym (same kind)) (and_from _ (each_once (askers done kind)) all parts.1)

-- where a file of conversations is opened, who stood stands
more_stand : (b : Bool) (xs : List Speaker) (s : Speaker) (conv : ℕ) → list_any (λ x. eqb x.conv conv) xs ≡ true → list_any (λ x. eqb x.conv conv) (cond b (xs ++ s ∷ []) xs) ≡ true
more_stand false xs s conv e = e
more_stand true [] s conv e = absurd cc
more_stand true (x ∷ xs) s conv e = front_step (eqb x.conv conv) (list_any (λ y. eqb y.conv conv) xs) (list_any (λ y. eqb y.conv conv) (xs ++ s ∷ [])) e (more_stand true xs s conv)

opened_stand : (done : List Deed) (at f mode : ℕ) (kind : PromptKind) → all_prompted done kind ≡ true → list_all (stands (OfFids at (Opened f mode) ∷ done)) (askers done kind) ≡ true
opened_stand done at f mode kind h =
    all_weaker (waits_so done kind) (stands (OfFids at (Opened f mode) ∷ done)) (askers done kind)
    (λ n e. more_stand (names Rpc (fid_of done at f)) (speakers done) (record { conv = opened_talks done; conn = at; fid = f }) n (and_parts (stands done n) (waits_on kind (standing_of done n).phase) e).0) (parts_of done kind h).0

-- what is done with questions
within_more : (done : List Deed) (kind : PromptKind) (ns : List ℕ) → Within ns (askers done kind) → all_prompted done kind ≡ true → (list_all (waits_so done kind) ns && each_once ns) ≡ true
within_more done kind ns w h = let parts = parts_of done kind h in and_from _ (each_once ns) (within_all (waits_so done kind) w parts.0) (within_once w parts.1)

abbrev Asks : List Deed → PromptKind → side.Call → Type 0
Asks done kind (side.Asked conv about) = (waits_so done kind conv ≡ true) × (asks_user done kind conv ≡ false)
Asks done kind side.Read = Unit {0}
Asks done kind (side.Replied tag) = Unit {0}
Asks done kind (side.Withdrawn conv) = Unit {0}

prompt_more : (done : List Deed) (kind : PromptKind) (call : side.Call) → Asks done kind call → all_prompted done kind ≡ true
    → (list_all (waits_so done kind) (askers_in (side.after kind (call ∷ prompt_calls done kind))) && each_once (askers_in (side.after kind (call ∷ prompt_calls done kind)))) ≡ true
prompt_more done kind (side.Asked conv about) asks h =
    let q = prompts_of done kind in
    let parts = parts_of done kind h in
    subst (λ (ns : List ℕ). (list_all (waits_so done kind) ns && each_once ns) ≡ true) (sym (asked_more conv (asked.next_line q about) q))
    (and_from _ (each_once (askers_in q ++ conv ∷ [])) (all_append (waits_so done kind) (askers_in q) conv parts.0 asks.0) (once_append (askers_in q) conv parts.1 asks.1))
prompt_more done kind side.Read asks h = subst (λ (ns : List ℕ). (list_all (waits_so done kind) ns && each_once ns) ≡ true) (sym (read_same (prompts_of done kind))) h
prompt_more done kind (side.Replied tag) asks h = within_more done kind _ (replied_within tag (prompts_of done kind)) h
prompt_more done kind (side.Withdrawn conv) asks h = within_more done kind _ (withdrawn_within conv (prompts_of done kind)) h

pub prompts_more : (done : List Deed) (of : PromptKind) (call : side.Call) → Asks done of call → Prompted done → Prompted (OfPrompts of call ∷ done)
prompts_more done k.Confirm call asks h k.Confirm = prompt_more done k.Confirm call asks (h k.Confirm)
prompts_more done k.Confirm call asks h k.Needkey = h k.Needkey
prompts_more done k.Needkey call asks h k.Confirm = h k.Confirm
prompts_more done k.Needkey call asks h k.Needkey = prompt_more done k.Needkey call asks (h k.Needkey)

pub prompted_more : (conn : ℕ) → KeepsOf (is_done conn) Prompted
prompted_more c done (OfFids at (Versioned msize)) kind fits h = stand_more done (OfFids at (Versioned msize)) (λ of. refl) (λ n. refl) (fits.1 tt) h
prompted_more c done (OfFids at (Clunked f)) kind fits h = stand_more done (OfFids at (Clunked f)) (λ of. refl) (λ n. refl) (fits.1 tt) h
prompted_more c done (OfFids at (Opened f mode)) kind fits h = stand_more done (OfFids at (Opened f mode)) (λ of. refl) (λ n. refl) (λ of. opened_stand done at f mode of (h of)) h
prompted_more c done (OfFids at (Attached f)) kind fits h = h
prompted_more c done (OfFids at (Walked f node)) kind fits h = h
prompted_more c done (OfFids at (Listed f)) kind fits h = h
prompted_more c done (OfFids at (Browsed f next)) kind fits h = h
prompted_more c done (OfConnection at Hung) kind fits h = stand_more done (OfConnection at Hung) (λ of. refl) (λ n. refl) (fits tt) h
prompted_more c done (OfConnection at Entered) kind fits h = h
prompted_more c done (OfKeys at deed) kind fits h = h
prompted_more c done (OfReplies at deed) kind fits h = h
prompted_more c done (OfTalk conv (calls.Consented agrees)) kind fits h = reply_more done conv (calls.Consented agrees) (fits tt) h
prompted_more c done (OfTalk conv calls.KeyTold) kind fits h = reply_more done conv calls.KeyTold (fits tt) h
prompted_more c done (OfTalk conv calls.Shut) kind fits h = reply_more done conv calls.Shut (fits tt) h
prompted_more c done (OfTalk conv (calls.Heard bytes)) kind fits h = call_more done conv (calls.Heard bytes) refl h
prompted_more c done (OfTalk conv calls.Unheard) kind fits h = call_more done conv calls.Unheard refl h
prompted_more c done (OfTalk conv calls.Roomless) kind fits h = call_more done conv calls.Roomless refl h
prompted_more c done (OfTalk conv (calls.Stored request)) kind fits h = call_more done conv (calls.Stored request) refl h
prompted_more c done (OfTalk conv (calls.CarriedOut word)) kind fits h = call_more done conv (calls.CarriedOut word) refl h
prompted_more c done (OfTalk conv (calls.Sought found)) kind fits h = call_more done conv (calls.Sought found) refl h
prompted_more c done (OfTalk conv calls.Took) kind fits h = call_more done conv calls.Took refl h
prompted_more c done (OfPrompts of (side.Asked conv about)) kind fits h = prompts_more done of (side.Asked conv about) (and_from (stands done conv) _ (fits.speaks tt) fits.phase, fits.alone tt of) h
prompted_more c done (OfPrompts of side.Read) kind fits h = prompts_more done of side.Read tt h
prompted_more c done (OfPrompts of (side.Replied tag)) kind fits h = prompts_more done of (side.Replied tag) tt h
prompted_more c done (OfPrompts of (side.Withdrawn conv)) kind fits h = prompts_more done of (side.Withdrawn conv) tt h
prompted_more c done (OfLog doing) kind fits h = h
prompted_more c done (Raised conv) kind fits h = h
prompted_more c done HandedOut kind fits h = h
prompted_more c done DropTaken kind fits h = h
prompted_more c done Swept kind fits h = h
prompted_more c done Halted kind fits h = λ of. refl
