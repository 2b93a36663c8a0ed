-- A file that was read to its end is the file of the model that its states spell.
use Rattle.std.proofs.Common.{◌≡◌, ℕ, ◌^◌, ◌<◌, cond, ltb, List, [], ◌∷◌, ◌++◌, length, get_or, sym, refl, ap, ◌∙◌, subst, ap₂, inl, inr, append_assoc, arith, pow_mono}
use Rattle.std.specs.List.{flat_map}
use Rattle.std.proofs.lemmas.Bool.{cases_lt, cond-true, cond-false, lt-ltb, le-ltb}
use Rattle.model.specs.Model.{Model, Ranged, everyone, moves}
use Rattle.model.specs.Kinds as kinds
use Rattle.model.specs.Kinds.{nowhere, table_of}
use Rattle.model.specs.declared.state.State.{State}
use Rattle.model.proofs.Tabling.{states_ranged}
use Rattle.legend.specs.Names.{Lawful}
use Rattle.legend.proofs.Spelling.{same_bytes}
use Rattle.file.specs.File.{Command, begin, finish, state, encode, upto, file_of, outcomes}
use Rattle.file.specs.Reading.{Counts, Fileable, Leads, none, more, Seen, nothing}
use Rattle.file.proofs.Once.{leads_append}
use Rattle.file.proofs.Filing.{name_at, state_at, commands_of, file_commands, get_or-upto, naming, between, names_lead, states_lead, all_named}
use Rattle.reader.specs.Bodies.{row_commands}
use Rattle.reader.specs.declared.header.Header.{Header}
use Rattle.reader.specs.Heads.{Kept, body_seen, out_command}
use Rattle.reader.specs.Sofar.{Sofar, opening}
use Rattle.reader.proofs.Naming.{upto_same}

-- the same commands lead to the same moment
leads_end : {s t u : Seen} {cs : List Command} → Leads s cs t → Leads s cs u → t ≡ u
leads_end none none = refl
leads_end (more c f d k a) (more e g i j b) = leads_end a b

-- six counts that keep the rule are those of the agents, and 0 after them
six_counts : (k : ℕ) (xs : List ℕ) → length xs ≡ 6 → Counts k xs → xs ≡ upto (λ a. cond (ltb a k) (get_or xs a 0) 0 ∷ []) 6
six_counts k xs six rule =
    same_bytes xs _ 6 six refl (λ a l.
    sym (get_or-upto (λ b. cond (ltb b k) (get_or xs b 0) 0) 6 a 0 l
    ∙ elim (cases_lt a k) [ inl h ↦ cond-true (ltb a k) _ 0 (lt-ltb a k h) | inr h ↦ cond-false (ltb a k) _ 0 (le-ltb a k h) ∙ sym (rule.others a h l) ]))

module _ (h : Header) (names : List (List ℕ)) (xs : List State) (law : Lawful names) (long : length names ≡ h.marks)
    (kept : (t : ℕ) → t < h.states → Kept h (get_or xs t nowhere)) where
  abbrev M : Model
  M = table_of h.states h.agents xs

  pub whole_ranged : Ranged M
  whole_ranged = states_ranged h.states h.agents xs h.states_ranged h.agents_ranged.0 h.agents_ranged.1 (λ t l.
      let x = kept t l in
      record { sixteen = omega (arith, x.declared, pow_mono h.marks_ranged); counts = x.counts.ranged; inside = x.inside })

  able : Fileable M names
  able = record { ranged = whole_ranged; lawful = law; named = λ t l. subst (λ (i : ℕ). (get_or xs t nowhere).marks < 2 ^ i) (sym long) (kept t l).declared }

  -- the commands of a state that was read are those of the model
  row_spelled : (t : ℕ) → t < h.states → row_commands h.agents xs t ≡ state_at M t
  row_spelled t l =
      let x = get_or xs t nowhere in
      ap (λ (c : List ℕ). state x.marks c ∷ upto (out_command x.outcomes) (moves everyone (kinds.counts_at x) h.agents)) (six_counts h.agents x.counts (kept t l).six (kept t l).counts)

  -- all commands before END, as they were read and as the model has them
  abbrev told : List Command
  told = opening h names ++ upto (row_commands h.agents xs) h.states

  abbrev due_ones : List Command
  due_ones = begin h.agents h.states (length names) ∷ (upto (name_at names) (length names) ++ upto (state_at M) h.states)

  commands_spelled : told ≡ due_ones
  commands_spelled =
      ap₂ (λ (i : ℕ) (l : List Command). begin h.agents h.states i ∷ (upto (name_at names) (length names) ++ l)) (sym long) (upto_same (row_commands h.agents xs) (state_at M) h.states row_spelled)

  leads_all : Leads nothing due_ones (between M names h.states)
  leads_all =
      more (begin h.agents h.states (length names)) tt refl (h.agents_ranged, h.states_ranged, law.few)
      (leads_append (subst (Leads (naming M names 0) (upto (name_at names) (length names))) (all_named able) (names_lead able (length names) (omega arith))) (states_lead able h.states (omega arith)))

  total_is : (total : ℕ) → Leads nothing told (body_seen h names h.states total) → total ≡ outcomes M h.states
  total_is total a = ap (λ (s : Seen). s.outs) (leads_end (subst (λ (l : List Command). Leads nothing l (body_seen h names h.states total)) commands_spelled a) leads_all)

  pub whole_file : {input rest rest' : List ℕ} {at to total : ℕ} {s : Seen} → Sofar input rest at told (body_seen h names h.states total) → Sofar input rest' to (told ++ finish total ∷ []) s →
      Fileable M names × (input ≡ file_of M names ++ rest')
  whole_file {rest' = rest'} {total = total} so end =
      let same : told ++ finish total ∷ [] ≡ commands_of M names =
      ap₂ (λ (l : List Command) (x : ℕ). l ++ finish x ∷ []) commands_spelled (total_is total so.leads)
      ∙ ap (λ (l : List Command). begin h.agents h.states (length names) ∷ l) (append_assoc (upto (name_at names) (length names)) (upto (state_at M) h.states) (finish (outcomes M h.states) ∷ [])) in
      (able, end.bytes ∙ ap (λ (l : List Command). flat_map encode l ++ rest') same ∙ ap (λ (l : List ℕ). l ++ rest') (file_commands M names))
