-- How the sort of a conflict is found in one pass over the earlier job's places.
use Rattle.std.specs.Prelude.{ℕ, ◌+◌, ◌<◌, Bool, true, false, ◌≡◌}
use Rattle.std.proofs.Common.{arith, add-one, sym, ap, ◌∙◌}
use Rattle.laws.specs.Search.{any_below}
use Rattle.laws.specs.SearchLaws.{any_none, any_more, any_found, or_left, or_right}
use Rattle.dependence.specs.declared.Job.{Job}
use Rattle.dependence.specs.Job.{is_read, access_at}
use Rattle.dependence.specs.Conflict.{conflict_at}
use Rattle.dependence.specs.Sort.{flows_at, flows, overwrites_at, overwrites, sort_by, sort_of}
use Rattle.dependence.specs.SortLaws.{write_flows, read_overwritten, read_passes_nothing, conflict_either}

-- Where the pass stands after i places: no height flows by one of them, and `sort` says whether one is overwritten.
pub record SortPass (earlier later : Job) (i sort : ℕ) : Type 0 where
  pub unfed : any_below i (flows_at earlier later) ≡ false
  pub found : sort ≡ sort_by false (any_below i (overwrites_at earlier later))

-- A search goes on past a place where nothing is found.
any_past : (i : ℕ) (p : ℕ → Bool) → p i ≡ false → any_below (i + 1) p ≡ any_below i p
unfolding any_below
any_past i p e = rw (add-one, e)

module _ (earlier later : Job) where
  pub sort_start : SortPass earlier later 0 0
  sort_start = record { unfed = any_none (flows_at earlier later); found = rw (any_none (overwrites_at earlier later)) }

  -- The conflict at a place that may write ends the pass.
  pub sort_flow : (i : ℕ) → i < 4 → conflict_at earlier later i ≡ true → is_read (access_at earlier i).mode ≡ false
      → 1 ≡ sort_of earlier later
  unfolding sort_of flows
  sort_flow i h c w = rw (any_found 4 i (flows_at earlier later) h (write_flows earlier later i w ∙ c))

  module _ (i sort : ℕ) (pass : SortPass earlier later i sort) where
    -- One at a place that reads is noted.
    pub sort_overwrite : conflict_at earlier later i ≡ true → is_read (access_at earlier i).mode ≡ true → SortPass earlier later (i + 1) 2
    sort_overwrite c r = record {
      unfed = any_more i (flows_at earlier later) pass.unfed (read_passes_nothing earlier later i r);
      found = rw (any_found (i + 1) i (overwrites_at earlier later) (omega arith) (read_overwritten earlier later i r ∙ c));
    }

    -- A place without a conflict changes nothing.
    pub sort_pass : conflict_at earlier later i ≡ false → SortPass earlier later (i + 1) sort
    sort_pass c =
        let neither = sym (conflict_either earlier later i) ∙ c in
        record {
          unfed = any_more i (flows_at earlier later) pass.unfed (or_left (flows_at earlier later i) (overwrites_at earlier later i) neither);
          found = pass.found ∙ ap (sort_by false) (sym (any_past i (overwrites_at earlier later) (or_right (flows_at earlier later i) (overwrites_at earlier later i) neither)));
        }

    pub sort_end : i ≡ 4 → sort ≡ sort_of earlier later
    unfolding sort_of flows overwrites
    sort_end e = rw (← e, pass.unfed) pass.found
