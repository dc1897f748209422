-- A store into a part of what lies behind a reference: the part comes out of the whole in memory, and goes back with its new value.
-- Parts nest: a field lies within a block, and an element within a field that is an array.
use mathlib.Core.Path.{◌≡◌, refl, sym, ap, subst, ◌∙◌}
use Prim.Native.Nat.{ℕ, zero, ◌+◌, ◌*◌, ◌<◌}
use mathlib.Core.Option.{some}
use mathlib.Core.List.{List, [], ◌∷◌, map}
use lib.Dec.{T}
use lib.ListN.{length, length-set, get_or, set}
use seplogic.Ra.Ura.{Ura}
use base.Fraction.{full_share}
use mir.Syntax.{Ty}
use mir.Val.{Val, WT, has_ty}
use base.Logic.{SProp, ent, sep, wand, via, apply∗, guard_i}
use base.Fml.{Fml, fsep, fat, froom, fdies}
use prog.Memory.{size, field_at}
use prog.Wp.{Env}
use types.Logic.{Logic, sem}
use types.Kit.{Item, ‵, raw, ◌⊛◌, some as some_i, mean, ⋆, nth, del, put, pull, fill, Goal, frees, aim, Step, step, ◌$◌, !, qed, by, move, use0, use1, use2, rewrite, split, join, frame, assume, drop, pick, fsplit, fjoin, feq_l, feq_i, fpack, done}
use types.SemTy.{cells}
use types.Share.{arr_parts}
use types.Run.{Writes}
use denote.RattleType.{RattleType, mirs}
use denote.Shadow.{makes_shadow}
use denote.Laws.{Is, Typed}
use denote.Memory.{part_at, part_of, cell_at, lone, mem, shares}
use denote.Array.{Array}
use denote.ArrayMemory.{Single, Array-apart, Array-whole}
use denote.Struct.At.{FieldAt, get_at, put_at}
use denote.Struct.Field.{Field, rows}
use denote.Struct.Laws.{FLaws, Plain}
use denote.Struct.Struct.{to_tys}
use borrow.Table.Elements.{at, at_mul, focus}
use borrow.Table.OneValue.{One, part_in, part_out}
use borrow.Rule.Slice.Shared.{parts-cells}
use denote.Struct.Loose.{loosens}
use borrow.Struct.Behind.{put_at_lem}
use Rattle.std.proofs.lemmas.List.{map-set}
use Rattle.rules.specs.declared.block.Block.{Block}
use Rattle.rules.specs.contracts.block.Block as B
use Rattle.rules.proofs.block.Block.TheLaws as B'

-- a block's fields
abbrev Fs : List Field
Fs = (B.the_type).parts

-- the block with x as its k-th field
abbrev pub with_field : (k : ℕ) → (FieldAt Fs k).Value → Block → Block
with_field k x h = (B.struct).make (put_at Fs k x ((B.struct).as_values h)) tt

-- the whole h in memory at o holds the part f at e; with f' in its place it is h'
pub record Within {M : Type 1} {𝓤 : Ura M} (𝓛 : Logic 𝓤) (R F : RattleType) (h h' : R.Denot) (f f' : F.Denot) (b o e : ℕ) : Type 1 where
  pub out : ent 𝓤 (sem 𝓛 (part_at R full_share h b o)) (sep 𝓤 (sem 𝓛 (part_at F full_share f b e)) (wand 𝓤 (sem 𝓛 (part_at F full_share f' b e)) (sem 𝓛 (part_at R full_share h' b o))))

module _ {M : Type 1} {𝓤 : Ura M} (𝓛 : Logic 𝓤) where
  -- a field of a block
  pub field_within : (k d : ℕ) → One (FieldAt Fs k).row → field_at zero (to_tys (mirs (rows Fs))) k ≡ some (lone (FieldAt Fs k).row.mir, d) → (h : Block) (b o : ℕ) (x : (FieldAt Fs k).Value)
      → Within 𝓛 B.the_row (FieldAt Fs k).row h (with_field k x h) ((FieldAt Fs k).into (get_at Fs k ((B.struct).as_values h))) ((FieldAt Fs k).into x) b o (o + d)
  field_within k d one at h b o x = record { out = put_at_lem 𝓛 full_share B.the_type (loosens B.the_type.parts B'.the_laws) k d one at (b, o) h (with_field k x h) ((B.struct).as_values h) x refl refl }

  -- the element i of an array that lies within h: p is how far into the array it lies
  module _ (R : RattleType) (h h' : R.Denot) (F : Field) (n : ℕ) (one : Single F.row.mir) (xs : List F.Value) (i : ℕ) (y : F.Value) (b o e p : ℕ) where
    abbrev zs : List F.row.Denot
    zs = map F.into xs

    abbrev zs' : List F.row.Denot
    zs' = map F.into (set xs i y)

    abbrev Part : List F.row.Denot → Fml
    Part us = part_at (Array F.row n) full_share us b e

    abbrev Elem : ℕ → F.row.Denot → Fml
    Elem j z = part_at F.row full_share z b j

    abbrev Whole : R.Denot → Fml
    Whole g = part_at R full_share g b o

    abbrev Back : ℕ → SProp 𝓤
    Back j = wand 𝓤 (sem 𝓛 (Elem j (F.into y))) (sem 𝓛 (cells (mem F.row) (set zs i (F.into y)) b e))

    abbrev Home : SProp 𝓤
    Home = wand 𝓤 (sem 𝓛 (Part zs')) (sem 𝓛 (Whole h'))

    -- the elements, with y at i, are the array
    elements : length zs ≡ n → ent 𝓤 (sem 𝓛 (cells (mem F.row) (set zs i (F.into y)) b e)) (sem 𝓛 (Part zs'))
    elements l = qed 𝓛 (‵ (cells (mem F.row) (set zs i (F.into y)) b e) ∷ []) {P = sem 𝓛 (Part zs')} (
        rewrite ! 0 (λ (G : Fml). ‵ G) (sym (parts-cells F.row full_share (set zs i (F.into y)) b e)) refl $ feq_i ! ℕ (length (set zs i (F.into y))) n (length-set zs i (F.into y) ∙ l) $ fjoin ! $
        use1 𝓛 (‵ (Part (set zs i (F.into y)))) (Array-whole 𝓛 F.row full_share n (set zs i (F.into y)) b e) $ rewrite ! 0 (λ (us : List F.row.Denot). ‵ (Part us)) (sym (map-set F.into xs i y)) refl $ done !)

    item_in : i < n → i * size (lone F.row.mir) ≡ p → Within 𝓛 R (Array F.row n) h h' (map F.into xs) (map F.into (set xs i y)) b o e
        → Within 𝓛 R F.row h h' (get_or (map F.into xs) i (F.into y)) (F.into y) b o (p + e)
    item_in lt there w = record {
      out = qed 𝓛 (‵ (Whole h) ∷ []) {P = sep 𝓤 (sem 𝓛 (Elem (p + e) (get_or zs i (F.into y)))) (wand 𝓤 (sem 𝓛 (Elem (p + e) (F.into y))) (sem 𝓛 (Whole h')))} (
          use1 𝓛 (‵ (Part zs) ⊛ raw Home) w.out $ split ! $ use1 𝓛 (‵ ((arr_parts (shares F.row) n).part full_share zs b e)) (Array-apart 𝓛 F.row full_share one n zs b e) $ fsplit ! $ feq_l ! (λ l.
          rewrite ! 0 (λ (G : Fml). ‵ G) (parts-cells F.row full_share zs b e) refl $
          use1 𝓛 (‵ (Elem (at e (mem F.row).size i) (get_or zs i (F.into y))) ⊛ raw (Back (at e (mem F.row).size i))) (focus 𝓛 (mem F.row) (F.into y) (F.into y) i zs b e (subst (λ (m : ℕ). i < m) (sym l) lt)) $ split ! $
          rewrite ! 0 (λ (j : ℕ). ‵ (Elem j (get_or zs i (F.into y)))) spot refl $ rewrite ! 1 (λ (j : ℕ). raw (Back j)) spot refl $
          -- [the element; the way back to the elements; the way back to the whole]
          frame ! $ assume {P = sem 𝓛 (Whole h')} ! (‵ (Elem (p + e) (F.into y))) $
          use2 𝓛 (‵ (cells (mem F.row) (set zs i (F.into y)) b e)) (apply∗ 𝓤 (sem 𝓛 (Elem (p + e) (F.into y))) (sem 𝓛 (cells (mem F.row) (set zs i (F.into y)) b e))) $ use1 𝓛 (‵ (Part zs')) (elements l) $
          use2 𝓛 (‵ (Whole h')) (apply∗ 𝓤 (sem 𝓛 (Part zs')) (sem 𝓛 (Whole h'))) $ done !));
    }
      where
        spot : at e (mem F.row).size i ≡ p + e
        spot = at_mul e (mem F.row).size i ∙ ap (λ (m : ℕ). m + e) there

  -- the same, where any list may take the array's place
  pub item_within : (F : Field) (n : ℕ) → Single F.row.mir → (xs : List F.Value) (i : ℕ) (y : F.Value) {R : RattleType} {h : R.Denot} {after : List F.Value → R.Denot} {b o e p : ℕ} → i < n → i * size (lone F.row.mir) ≡ p
      → ((ys : List F.Value) → Within 𝓛 R (Array F.row n) h (after ys) (map F.into xs) (map F.into ys) b o e)
      → Within 𝓛 R F.row h (after (set xs i y)) (get_or (map F.into xs) i (F.into y)) (F.into y) b o (p + e)
  item_within F n one xs i y {R} {h} {after} {b} {o} {e} {p} lt there w = item_in R h (after (set xs i y)) F n one xs i y b o e p lt there (w (set xs i y))

module _ {M : Type 1} {𝓤 : Ura M} {𝓛 : Logic 𝓤} {K : Type 0} {Γ : List (Item 𝓤)} where
  -- the cell behind a reference and what it owns, as one entry
  open 𝓛 use {H}

  pub holds : K → (R : RattleType) (h : R.Denot) (vs : List Val) (b o : ℕ) {G : Goal 𝓤 H} → Step K 𝓛 (‵ (part_at R full_share h b o) ∷ Γ) G (‵ (cell_at full_share R.mir vs b o) ∷ ‵ (R.own_val h vs) ∷ Γ) G
  unfolding part_of
  holds t R h vs b o = step (λ s. fjoin t $ fpack t (List Val) (λ us. fsep (cell_at full_share R.mir us b o) (R.own_val h us)) vs $ s)

  -- the entry m is a whole that lies in memory: a value of a part of it is stored there
  pub store_within : K → (m : ℕ) (F : Field) → FLaws F → Plain F → One F.row → {R : RattleType} {h h' : R.Denot} {f : F.row.Denot} (y : F.Value) {b o e : ℕ} {v : Val}
      → Within 𝓛 R F.row h h' f (F.into y) b o e → nth 𝓛 m Γ ≡ ‵ (part_at R full_share h b o) → Is F.row (F.into y) (v ∷ [])
      → Writes K 𝓛 Γ (lone F.row.mir) b e v (put 𝓛 m (‵ (part_at R full_share h' b o)) Γ)
  store_within t m F L pl one {R} {h} {h'} {f} y {b} {o} {e} {v} w at-m is = record {
    go = λ P s.
        via 𝓤 (sep 𝓤 (H.room τ b e) (wand 𝓤 (H.at full_share τ b e v) P))
        (qed 𝓛 (raw (⋆ 𝓛 Γ) ∷ []) {P = sep 𝓤 (H.room τ b e) (wand 𝓤 (H.at full_share τ b e v) P)} (
        use1 𝓛 (‵ (part_at R full_share h b o) ⊛ raw Rest) (subst (λ (j : Item 𝓤). ent 𝓤 (⋆ 𝓛 Γ) (sep 𝓤 (mean 𝓛 j) Rest)) at-m (pull 𝓛 m Γ)) $ split ! $
        use1 𝓛 (‵ (part_at F.row full_share f b e) ⊛ raw Home) w.out $ split ! $
        use1 𝓛 (some_i (λ (u : Val). ‵ (fat full_share τ b e u) ⊛ ‵ (F.row.own_val f (u ∷ [])))) (part_out 𝓛 F.row one full_share f b e) $ pick ! (λ u. split ! $
        use1 𝓛 (‵ (froom τ b e)) (𝓛.laws.at_room τ b e u) $ frame ! $ drop ! $ assume {P = P} ! (‵ (fat full_share τ b e v)) $
        -- [the new cell; the way back to the whole; the other entries]
        use0 𝓛 (‵ (F.row.own_val (F.into y) (v ∷ []))) (makes_shadow 𝓛 (F.row.own_val (F.into y) (v ∷ [])) (pl (F.into y) (v ∷ [])) is) $ move ! (1 ∷ 0 ∷ []) $
        use2 𝓛 (‵ (part_at F.row full_share (F.into y) b e)) (part_in 𝓛 F.row one full_share (F.into y) b e v) $
        use2 𝓛 (‵ (part_at R full_share h' b o)) (apply∗ 𝓤 (sem 𝓛 (part_at F.row full_share (F.into y) b e)) (sem 𝓛 (part_at R full_share h' b o))) $
        use2 𝓛 (raw (⋆ 𝓛 (put 𝓛 m (‵ (part_at R full_share h' b o)) Γ))) (fill 𝓛 m (‵ (part_at R full_share h' b o)) Γ) $ by ! s)))
        (guard_i 𝓤 (T (has_ty τ v) × WT v) (sep 𝓤 (H.room τ b e) (wand 𝓤 (H.at full_share τ b e v) P)) (subst (λ (τs : List Ty). Typed τs (v ∷ [])) one ((L.lawful 𝓛).typed (F.into y) (v ∷ []) is)).0);
  }
    where
      τ : Ty
      τ = lone F.row.mir

      Rest : SProp 𝓤
      Rest = ⋆ 𝓛 (del 𝓛 m Γ)

      Home : SProp 𝓤
      Home = wand 𝓤 (sem 𝓛 (part_at F.row full_share (F.into y) b e)) (sem 𝓛 (part_at R full_share h' b o))

  -- a local is freed, whatever it holds
  pub frees_cell : K → (m : ℕ) {τ : Ty} {b : ℕ} {v : Val} {E : Env 𝓤 H} {G : Goal 𝓤 H} → nth 𝓛 m Γ ≡ ‵ (fat full_share τ b zero v) → nth 𝓛 m (del 𝓛 m Γ) ≡ ‵ (fdies τ b)
      → Step K 𝓛 (del 𝓛 m (del 𝓛 m Γ)) (frees E G) Γ (frees ((τ, b) ∷ E) G)
  frees_cell t m {τ} {b} {v} {E} {G} at-m dies-m = step (λ s. record {
    prf = qed 𝓛 (raw (⋆ 𝓛 Γ) ∷ []) {P = sep 𝓤 (sep 𝓤 (H.room τ b zero) (H.dies τ b)) (aim 𝓤 H (frees E G))} (
        use1 𝓛 (‵ (fat full_share τ b zero v) ⊛ raw (⋆ 𝓛 Left)) (subst (λ (j : Item 𝓤). ent 𝓤 (⋆ 𝓛 Γ) (sep 𝓤 (mean 𝓛 j) (⋆ 𝓛 Left))) at-m (pull 𝓛 m Γ)) $ split ! $
        use1 𝓛 (‵ (froom τ b zero)) (𝓛.laws.at_room τ b zero v) $ move ! (1 ∷ []) $
        use1 𝓛 (‵ (fdies τ b) ⊛ raw (⋆ 𝓛 (del 𝓛 m Left))) (subst (λ (j : Item 𝓤). ent 𝓤 (⋆ 𝓛 Left) (sep 𝓤 (mean 𝓛 j) (⋆ 𝓛 (del 𝓛 m Left)))) dies-m (pull 𝓛 m Left)) $ split ! $
        move ! (2 ∷ 0 ∷ []) $ join ! $ frame ! $ by ! s.prf);
  })
    where
      Left : List (Item 𝓤)
      Left = del 𝓛 m Γ
