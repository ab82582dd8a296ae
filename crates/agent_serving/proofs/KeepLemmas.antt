-- How the ends of a program that answers for its user add up.
use Rattle.std.proofs.Common.{◌≡◌, ℕ, List, [], ◌∷◌, ◌++◌, Bool, true, false, ◌||◌, Option, Some, None, refl, sym, ap, ◌∙◌, append_assoc, append-nil}
use Rattle.std.specs.List.{list_any}
use Rattle.wire_streams.specs.Spawning.{Gains}
use Rattle.prompters.specs.Manners.{Manner}
use Rattle.agent_hub.specs.Submits.{HubSeat}
use Rattle.agent_serving.specs.declared.prompts.PromptsEnd.{PromptsEnd}
use Rattle.agent_serving.specs.Prompting.{PromptsSo}
use Rattle.agent_serving.specs.Keeping.{Again, Keeping, KeepsSo, NeverYet, conn_behind, is_last}

gains_none : {A : Type 0} (told : Option (List A)) → Gains told told []
gains_none None = tt
gains_none (Some ends) = sym (append-nil ends)

gains_more : {A : Type 0} (old mid new : Option (List A)) (xs ys : List A) → Gains old mid xs → Gains mid new ys → Gains old new (xs ++ ys)
gains_more old mid None xs ys a b = tt
gains_more old None (Some now) xs ys a b = absurd b
gains_more None (Some between) (Some now) xs ys a b = absurd a
gains_more {A} (Some before) (Some between) (Some now) xs ys a b = b ∙ ap (λ (l : List A). l ++ ys) a ∙ append_assoc before xs ys

none_more : (ends : List PromptsEnd) (end : PromptsEnd) → list_any is_last ends ≡ false → is_last end ≡ false → list_any is_last (ends ++ end ∷ []) ≡ false
none_more [] end none is = rw is refl
none_more (other ∷ ends) end none is = let parts = or_false (is_last other) (list_any is_last ends) none in rw parts.0 (none_more ends end parts.1 is)
  where
    or_false : (a b : Bool) → (a || b) ≡ false → (a ≡ false) × (b ≡ false)
    or_false false b e = (refl, e)
    or_false true b e = absurd cc

module _ (first : ℕ) (whole : List Manner) (start : HubSeat) (log : Option (List PromptsEnd)) where
  pub keeping_none : Keeping first whole start first whole start log log
  keeping_none = record { ends = []; answers = NeverYet; none_last = refl; told = gains_none log }

  module _ (conn : ℕ) (chain now : List Manner) (before after : HubSeat) (mid later : Option (List PromptsEnd)) (end : PromptsEnd) (k : Keeping first whole start conn chain before log mid) (so : PromptsSo conn chain now before after end)
      (told : Gains mid later (end ∷ [])) where
    pub keeps_on : is_last end ≡ false → Keeping first whole start (conn_behind end conn) now after log later
    keeps_on is = record { ends = k.ends ++ end ∷ []; answers = Again conn chain now before after k.ends end k.answers so; none_last = none_more k.ends end k.none_last is; told = gains_more log mid later k.ends (end ∷ []) k.told told }

    pub keeps_to_end : is_last end ≡ true → KeepsSo first whole now start after log later end
    keeps_to_end is = record { conn = conn; chain = chain; before = before; ends = k.ends; answers = k.answers; none_last = k.none_last; prompts = so; last = is; told = gains_more log mid later k.ends (end ∷ []) k.told told }
