-- A file that was created and written, and whose finish failed or was done.
use Rattle.std.proofs.Common.{◌≡◌, ◌⊎◌, ℕ, ◌≤◌, List, [], ◌∷◌, length, take, Option, Some, None, Ok, IfSome, IsSome, OnSome, refl, sym, ap, subst}
use Rattle.std.proofs.Common.{◌∙◌, inl, inr, arith}
use Rattle.std.proofs.lemmas.List.{take_all}
use Rattle.mufom_host.specs.World.{Creates, Faults, GrowsBy, KeepsAllButCreated, KeepsAllButFile, KeepsAllButMade, KeepsAllButMaking}
use Rattle.mufom_host.specs.World.{KeepsAllButWrites, MakingGrowsBy, Meaning, NamedFile, Rose, with_bytes}
use Rattle.mufom_outcome.specs.declared.outcome.Outcome.TheVariants as outcome
use Rattle.mufom_works.specs.Making.{IsMadeAlone}
use Rattle.mufom_task.proofs.InputLaws.{call_between}

module _ (name bytes : List ℕ) (s0 s1 s2 s3 : Meaning) (f0 f1 f2 f3 : Faults) (creates : Creates s0 s1 (Ok tt) name)
    (created : KeepsAllButCreated s0 s1) (counts1 : KeepsAllButWrites f0 f1) (later1 : f0.writes ≤ f1.writes)
    (whole : MakingGrowsBy s1.making s2.making bytes) (written : KeepsAllButMaking s1 s2) (counts2 : KeepsAllButWrites f1 f2) (later2 : f1.writes ≤ f2.writes)
    (finished : KeepsAllButMade s2 s3) (counts3 : KeepsAllButWrites f2 f3) (later3 : f2.writes ≤ f3.writes) where
  -- the file being made has all of the bytes
  being-made : IsSome s0.making ⊎ IsSome s0.made → s2.making ≡ Some (Some (name, bytes))
  being-made known = subst (λ (o : Option (Option NamedFile)). IfSome o (λ making. s2.making ≡ Some (with_bytes making bytes))) (creates.making known) whole

  names : GrowsBy s0.created s3.created (name ∷ [])
  names =
      let same : s3.created ≡ s1.created = ap (λ (m : Meaning). m.created) finished ∙ ap (λ (m : Meaning). m.created) written in
      subst (λ (o : Option (List (List ℕ))). GrowsBy s0.created o (name ∷ [])) (sym same) creates.names

  file-only : KeepsAllButFile s0 s3
  file-only =
      finished ∙ ap (λ (m : Meaning). record m { making = s3.making; made = s3.made }) written
      ∙ ap (λ (m : Meaning). record m { making = s3.making; made = s3.made }) created
      ∙ ap (λ (o : Option (List (List ℕ))). record s0 { making = s3.making; made = s3.made; created = o })
      (sym (ap (λ (m : Meaning). m.created) finished ∙ ap (λ (m : Meaning). m.created) written))

  file-counts : KeepsAllButWrites f0 f3
  file-counts = counts3 ∙ ap (λ (f : Faults). record f { writes = f3.writes }) counts2 ∙ ap (λ (f : Faults). record f { writes = f3.writes }) counts1

  with-others : s3 ≡ record s0 { left = s3.left; err = s3.err; opened = s3.opened; making = s3.making; made = s3.made; created = s3.created }
  with-others =
      file-only ∙ ap (λ (o : Option (List ℕ)). record s0 { left = o; making = s3.making; made = s3.made; created = s3.created })
      (sym (ap (λ (m : Meaning). m.left) file-only))
      ∙ ap (λ (o : Option (List ℕ)). record s0 { left = s3.left; err = o; making = s3.making; made = s3.made; created = s3.created })
      (sym (ap (λ (m : Meaning). m.err) file-only))
      ∙ ap (λ (o : Option (List (List ℕ))). record s0 {
        left = s3.left;
        err = s3.err;
        opened = o;
        making = s3.making;
        made = s3.made;
        created =
            s3.created;
      }) (sym (ap (λ (m : Meaning). m.opened) file-only))

  some-known : {A : Type 0} (o : Option A) (P : A → Type 0) → (IsSome o → (a : A) → o ≡ Some a → P a) → IfSome o P
  some-known None P each = tt
  some-known (Some a) P each = each refl a refl

  pub cut-made : s3 ≡ s2 → Rose f2.writes f3.writes → IsMadeAlone name bytes (call_between s0 s3 f0 f3) outcome.WriteFault
  cut-made stays rose = record {
    made = (
      omega (arith, rose, later1, later2),
      record {
        begun = some-known s0.making (λ before. (s3.making ≡ Some before) ⊎ ((n : ℕ) × (s3.making ≡ Some (Some (name, take n bytes)))))
            (λ known before is. inr (
              length bytes,
              ap (λ (m : Meaning). m.making) stays ∙ being-made (inl known)
                  ∙ ap (λ (b : List ℕ). Some (Some (name, b))) (sym (take_all (length bytes) bytes (omega arith))),
            ));
        created = on-some s3.created (λ _. names);
        stays = with-others ∙ ap (λ (o : Option (List NamedFile)). record s0 {
          left = s3.left;
          err = s3.err;
          opened = s3.opened;
          making = s3.making;
          made = o;
          created = s3.created;
        })
            (ap (λ (m : Meaning). m.made) stays ∙ ap (λ (m : Meaning). m.made) written ∙ ap (λ (m : Meaning). m.made) created);
      },
    );
    only = file-only;
    counts = file-counts;
    later = omega (arith, later1, later2, later3);
  } where
    on-some : {A : Type 0} {P : Type 0} (o : Option A) → (IsSome o → P) → OnSome o P
    on-some None holds = tt
    on-some (Some a) holds = holds refl
