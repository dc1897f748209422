-- The values that the first f jobs leave, all of them final, are those of their serial run. By induction on f: a final job is unmarked, so its reads are what the
-- search finds below it, which is the table that the jobs before it left; its run on those values is its run alone, and it shows what that run writes.
use Rattle.std.specs.Prelude.{◌≡◌, true, Option, None, Some, unwrap_or}
use Rattle.std.proofs.Math.Path.{refl, ap, fun_ext}
use Rattle.std.proofs.Common.{sym, ◌∙◌, inl, inr, arith}
use Prim.Native.Nat.{ℕ, zero, suc}
use Rattle.theory.specs.Promise.{Machine, Promise}
use Rattle.theory.specs.Engine.{Job, final, found, search, version, find, all_final}
use Rattle.theory.specs.Serial.{alone, serial}
use Rattle.theory.specs.Every.{Every, every_imp}
use Rattle.theory.proofs.Runs.{Agrees, alone_stop, alone_abandon}
use Rattle.theory.proofs.Invariant.{Fresh, Stands, Good, Invariant, all_final_at, all_final_of}
use Rattle.theory.proofs.Moves.{running≢final}

found_value : (o : Option ℕ) (k : ℕ) (lower : ℕ × ℕ) → (found o k lower).1 ≡ unwrap_or o lower.1
found_value None k lower = refl
found_value (Some v) k lower = refl

module _ (M : Machine) (cells : ℕ) (P : Promise cells M) (table : ℕ → ℕ) (start : ℕ → M.S) (st : ℕ → Job M.S) (inv : Invariant M table start st) where
  open M use {S}

  -- what the first f jobs leave
  abbrev left_by : ℕ → ℕ → ℕ
  left_by f c = (find table st c f).1

  final_job : (f : ℕ) → (st f).status ≡ final → (c : ℕ) → left_by (suc f) c ≡ alone M (left_by f) (start f) c
  unfolding search
  final_job f e c = go (g.stands (λ q. running≢final (sym q ∙ e)))
    where
      b : Job S
      b = st f

      g : Good M table start st f b
      g = inv f

      agree : Every (Agrees M cells P (left_by f)) b.reads
      agree = every_imp (Fresh M table start st f) (Agrees M cells P (left_by f)) (λ r h. ap (λ x. x.1) h) b.reads (rw (g.settled e).0 at g.fresh)

      go : Stands M table start b → (found (version b c) f (find table st c f)).1 ≡ alone M (left_by f) (start f) c
      go (inl h) = rw (alone_stop M cells P (left_by f) g.ran agree h.0, h.1 c, found_value) refl
      go (inr h) = rw (alone_abandon M cells P (left_by f) g.ran agree h.0, h.1 c) refl

  pub final_cells : (f : ℕ) → all_final st f ≡ true → (c : ℕ) → (find table st c f).1 ≡ serial M table start f c
  unfolding serial search
  final_cells zero e c = refl
  final_cells (suc f) e c =
      let h = all_final_at st (suc f) e in
      final_job f (h f (omega arith)) c ∙ ap (λ t. alone M t (start f) c) (fun_ext (final_cells f (all_final_of st f (λ i l. h i (omega arith)))))
