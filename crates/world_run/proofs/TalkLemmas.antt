-- How each act changes what is known of the conversations.
use Rattle.std.proofs.Common.{◌≡◌, ℕ, List, [], ◌∷◌, Bool, true, false, ◌||◌, Option, Some, None, refl, sym, ap, subst, ◌∙◌}
use Rattle.std.specs.Prelude.{find}
use Rattle.std.specs.Str.{bytes_eq}
use Rattle.world_history.specs.declared.question.Question.{Question}
use Rattle.world_history.specs.Acts.{Act, Talk, Opened, Closed, has_name, is_node, opened_names, talk_of, talks}
use Rattle.world_history.specs.Turns.{Turn, closes}
use Rattle.world_history.specs.Worlds.{call_by, done_to, fid_for, last_call, on_talk, outstanding}
use Rattle.world_run.specs.PlayStanding.{AreOn, AreOthers, IsClosed, IsFree, IsOpen, or_else}
use Rattle.world_run.proofs.ListLemmas.{same_name, found_more, found_new, others_more, alone_more, alone_new, others_left, none_left, alone_left, found_left}

-- ---- an act that opens and closes none

pub record SameNames (old new : List Act) : Type 0 where
  pub names : opened_names new ≡ opened_names old
  pub talks : talks new ≡ talks old
  pub nodes : (name : List ℕ) → is_node old name ≡ true → is_node new name ≡ true

pub free_stays : (old new : List Act) (conv : List ℕ) → SameNames old new → outstanding new conv ≡ outstanding old conv → IsFree old conv → IsFree new conv
free_stays old new conv same asks f = record {
  free = ap (has_name conv) same.names ∙ f.free;
  asks = asks ∙ f.asks;
  others = subst (λ (ts : List Talk). AreOthers conv ts) (sym same.talks) f.others;
}

pub closed_stays : (old new : List Act) (conv : List ℕ) → SameNames old new → IsClosed old conv → IsClosed new conv
closed_stays old new conv same c = record {
  taken = ap (has_name conv) same.names ∙ c.taken;
  others = subst (λ (ts : List Talk). AreOthers conv ts) (sym same.talks) c.others;
}

pub open_stays : (old new : List Act) (conv node : List ℕ) (fid : ℕ) (call now : Option ℕ) → SameNames old new → outstanding new conv ≡ now → IsOpen old conv node fid call → IsOpen new conv node fid now
open_stays old new conv node fid call now same asks o = record {
  taken = ap (has_name conv) same.names ∙ o.taken;
  found = ap (find (λ t. bytes_eq t.conv conv)) same.talks ∙ o.found;
  asks = asks;
  made = same.nodes node o.made;
  alone = subst (λ (ts : List Talk). AreOn conv node ts) (sym same.talks) o.alone;
}

-- ---- one is opened

pub now_open : (acts : List Act) (conv node : List ℕ) → IsFree acts conv → is_node acts node ≡ true → IsOpen (Opened node conv ∷ acts) conv node (fid_for acts node) None
now_open acts conv node f made = record {
  taken = ap (λ (b : Bool). b || has_name conv (opened_names acts)) (same_name conv);
  found = found_new conv (talks acts) (record { conv = conv; node = node; fid = fid_for acts node }) f.others (same_name conv);
  asks = f.asks;
  made = made;
  alone = alone_new conv node (talks acts) (record { conv = conv; node = node; fid = fid_for acts node }) f.others (same_name node);
}

pub free_beside : (acts : List Act) (conv node name : List ℕ) → bytes_eq conv name ≡ false → IsFree acts name → IsFree (Opened node conv ∷ acts) name
free_beside acts conv node name other f = record {
  free = ap (λ (b : Bool). b || has_name name (opened_names acts)) other ∙ f.free;
  asks = f.asks;
  others = others_more name (talks acts) _ other f.others;
}

pub closed_beside : (acts : List Act) (conv node name : List ℕ) → bytes_eq conv name ≡ false → IsClosed acts name → IsClosed (Opened node conv ∷ acts) name
closed_beside acts conv node name other c = record {
  taken = ap (λ (b : Bool). b || has_name name (opened_names acts)) other ∙ c.taken;
  others = others_more name (talks acts) _ other c.others;
}

pub open_beside : (acts : List Act) (conv node name on : List ℕ) (fid : ℕ) (call : Option ℕ) → bytes_eq conv name ≡ false → IsOpen acts name on fid call → IsOpen (Opened node conv ∷ acts) name on fid call
open_beside acts conv node name on fid call other o = record {
  taken = ap (λ (b : Bool). b || has_name name (opened_names acts)) other ∙ o.taken;
  found = found_more name (talks acts) _ other ∙ o.found;
  asks = o.asks;
  made = o.made;
  alone = alone_more name on (talks acts) _ other o.alone;
}

-- ---- one is closed

-- nothing is asked by that
asks_left : (acts : List Act) (conv name node : List ℕ) (fid : ℕ) (call : Option ℕ) → talk_of acts conv ≡ Some (record { conv = conv; node = node; fid = fid }) → call_by acts name (on_talk acts (talk_of acts conv) (λ f. closes conv f)) call ≡ call
asks_left acts conv name node fid call found = ap (λ (o : Option Talk). call_by acts name (on_talk acts o (λ f. closes conv f)) call) found

pub now_closed : (acts : List Act) (conv node : List ℕ) (fid : ℕ) (call : Option ℕ) → IsOpen acts conv node fid call → IsClosed (Closed conv ∷ acts) conv
now_closed acts conv node fid call o = record { taken = o.taken; others = none_left conv (talks acts) }

pub free_left : (acts : List Act) (conv node name : List ℕ) (fid : ℕ) (call : Option ℕ) → IsOpen acts conv node fid call → IsFree acts name → IsFree (Closed conv ∷ acts) name
free_left acts conv node name fid call o f = record {
  free = f.free;
  asks = asks_left acts conv name node fid _ o.found ∙ f.asks;
  others = others_left name conv (talks acts) f.others;
}

pub closed_left : (acts : List Act) (conv name : List ℕ) → IsClosed acts name → IsClosed (Closed conv ∷ acts) name
closed_left acts conv name c = record { taken = c.taken; others = others_left name conv (talks acts) c.others }

pub open_left : (acts : List Act) (conv node name on : List ℕ) (fid its : ℕ) (call asked : Option ℕ) → bytes_eq conv name ≡ false → IsOpen acts conv node fid call → IsOpen acts name on its asked → IsOpen (Closed conv ∷ acts) name on its asked
open_left acts conv node name on fid its call asked other o p = record {
  taken = p.taken;
  found = found_left name conv (talks acts) other ∙ p.found;
  asks = asks_left acts conv name node fid _ o.found ∙ p.asks;
  made = p.made;
  alone = alone_left name on conv (talks acts) p.alone;
}

-- ---- questions

-- what a request leaves outstanding: the last that was raised, and where none was what there was
pub last_or : (raised : List Question) (call : Option ℕ) → last_call raised call ≡ or_else (last_call raised None) call
last_or [] call = refl
last_or (q ∷ raised) call = some_last raised q.call call where
  some_last : (raised : List Question) (number : ℕ) (call : Option ℕ) → last_call raised (Some number) ≡ or_else (last_call raised (Some number)) call
  some_last [] number call = refl
  some_last (q ∷ raised) number call = some_last raised q.call call

pub done_on_open : (acts : List Act) (conv node : List ℕ) (fid : ℕ) (call : Option ℕ) (turn : ℕ → Turn) → IsOpen acts conv node fid call → on_talk acts (talk_of acts conv) turn ≡ done_to acts node (turn fid)
done_on_open acts conv node fid call turn o = ap (λ (t : Option Talk). on_talk acts t turn) o.found
