use Rattle.std.proofs.Common.{◌≡◌, ◌≤◌, ◌<◌, ◌*◌, ◌+◌, ◌∙◌, ℕ, List, false, length, rules, refl, sym, ap, subst, arith}
use Rattle.tmem_disk.proofs.Laws.{seen-left, SameOutside-refl, SameOutside-trans, SameOutside-wider}
use Rattle.tmem_record.specs.Layout.{pages_of}
use Rattle.tmem_record.specs.StandsAt.{StandsAt}
use Rattle.tmem_gate.proofs.Laws.{WritesWithin-refl, WritesWithin-wider, WritesWithin-trans}
use Rattle.tmem_image.specs.Pages.{has_page, HoldsOthers}
use Rattle.tmem_image.proofs.Changed.{page_written, page_kept, HoldsOthers-changed, moments_none, moments_write}
use Rattle.tmem_image.proofs.Pages.{front_none, front_all, pages_front, length-page_bytes}
use Rattle.tmem_image.proofs.spare.write_pages.Goals as goal
use Rattle.tmem_image.proofs.spare.write_pages.Goals.{then-has_page+in_ok-write, else-has_page}

pub loop-page-init : goal.loop-page-init
loop-page-init g c =
    let seen = (g.D.Disk.view c.args.disk.now).seen in
    record {
      capacity = search rules;
      model = search rules;
      failures = search rules;
      stand = λ k. subst (λ (l : List ℕ). StandsAt c.args.at l seen) (sym (front_none c.args.values.now)) (record { is = refl });
      ahead = λ k. SameOutside-refl c.args.at 0 seen;
      kept = moments_none (HoldsOthers c.args.at c.args.layout.vars c.args.changed c.args.values.now) (g.D.Disk.view c.args.disk.now) (g.met.D.Disk.is_device c.args.disk.now) c.requires.others;
      elsewhere = WritesWithin-refl c.args.at (512 * pages_of c.args.layout.vars) (g.D.Disk.view c.args.disk.now) (g.met.D.Disk.is_device c.args.disk.now);
    }

pub write-requires : goal.write-requires
write-requires g c =
    let long : length c.page_of-bytes.result ≡ 512 = ap length c.page_of-bytes.ensures.bytes ∙ length-page_bytes c.args.values.now c.loop-page.page in
    omega (arith, long, c.loop-page.invariant.capacity, c.requires.room, c.pages-pages.ensures)

-- the pages lie within the copy
within : (at page vars n : ℕ) → page < pages_of vars → n ≡ 512 → at + 512 * page + n ≤ at + 512 * pages_of vars
within at page vars n below long = omega (arith, below, long)

pub returns-in_err-write-clause-elsewhere : goal.returns-in_err-write-clause-elsewhere
returns-in_err-write-clause-elsewhere g c =
    let long : length c.page_of-bytes.result ≡ 512 = ap length c.page_of-bytes.ensures.bytes ∙ length-page_bytes c.args.values.now c.loop-page.page in
    WritesWithin-trans c.args.at (512 * pages_of c.args.layout.vars) _ _ _ c.write.ensures.uses.model c.loop-page.invariant.elsewhere
    (WritesWithin-wider (c.args.at + 512 * c.loop-page.page) (length c.page_of-bytes.result) c.args.at (512 * pages_of c.args.layout.vars) (omega arith) (within c.args.at c.loop-page.page c.args.layout.vars _ (omega (arith, c.pages-pages.ensures)) long) _ _ c.write.ensures.elsewhere)

pub loop-page-preserved : goal.loop-page-preserved
loop-page-preserved g c =
    let at = c.args.at in
    let page = c.loop-page.page in
    let values = c.args.values.now in
    let vars = c.args.layout.vars in
    let before = (g.D.Disk.view c.args.disk.now).seen in
    let now = (g.D.Disk.view c.loop-page.disk).seen in
    let so_far = c.loop-page.invariant in
    let below : page < pages_of vars = omega (arith, c.pages-pages.ensures) in
    let full : 64 * page ≤ length values = omega (arith, below, c.requires.sized) in
    let at_first = seen-left (g.D.Disk.view c.args.disk.now) (HoldsOthers at vars c.args.changed values) (g.met.D.Disk.is_device c.args.disk.now) c.requires.others in
    elim c.if-has_page.branch [
      | then-has_page+in_ok-write w ↦
          let bytes = w.page_of-bytes.result in
          let offset = at + 512 * page in
          let long : length bytes ≡ 512 = ap length w.page_of-bytes.ensures.bytes ∙ length-page_bytes values page in
          let new = (g.D.Disk.view w.write.new.disk).seen in
          rw w.disk-is (record {
            capacity = w.write.ensures.uses.capacity ∙ so_far.capacity;
            model = λ k. so_far.model (w.write.ensures.uses.model k);
            failures = search rules;
            stand = λ k.
                let then = w.write.ensures.uses.model k in
                let whole = (g.met.D.Disk.is_device c.loop-page.disk).seen_is_whole then in
                page_written at page offset values now new bytes full (omega (arith, whole, so_far.capacity, c.requires.room, below)) refl w.page_of-bytes.ensures.bytes (w.in_ok-write.ensures.written k) (so_far.stand then);
            ahead = λ k.
                SameOutside-trans at (512 * (page + 1)) before now new
                (SameOutside-wider at (512 * page) at (512 * (page + 1)) before now (omega arith) (omega arith) (so_far.ahead (w.write.ensures.uses.model k)))
                (SameOutside-wider offset (length bytes) at (512 * (page + 1)) now new (omega arith) (omega (arith, long)) (w.write.ensures.elsewhere.seen k));
            kept =
                moments_write (HoldsOthers at vars c.args.changed values) _ _ (g.met.D.Disk.is_device c.loop-page.disk) so_far.kept so_far.elsewhere.time.later offset (length bytes) _ w.write.ensures.uses.model
                (λ a b. HoldsOthers-changed at vars c.args.changed page (length bytes) values a b (sym c.has_page.ensures ∙ w.if-has_page.true) long) w.write.ensures.elsewhere;
            elsewhere =
                WritesWithin-trans at (512 * pages_of vars) _ _ _ w.write.ensures.uses.model so_far.elsewhere
                (WritesWithin-wider offset (length bytes) at (512 * pages_of vars) (omega arith) (within at page vars (length bytes) below long) _ _ w.write.ensures.elsewhere);
          })
      | else-has_page w ↦
          let no : has_page c.args.changed page ≡ false = sym c.has_page.ensures ∙ w.if-has_page.false in
          rw w.disk-is (record {
            capacity = so_far.capacity;
            model = so_far.model;
            failures = so_far.failures;
            stand = λ k. page_kept at page values before now full (so_far.ahead k) ((at_first (so_far.model k)).each page below no) (so_far.stand k);
            ahead = λ k. SameOutside-wider at (512 * page) at (512 * (page + 1)) before now (omega arith) (omega arith) (so_far.ahead k);
            kept = so_far.kept;
            elsewhere = so_far.elsewhere;
          })
    ]

pub returns-in_err-write-clause-kept : goal.returns-in_err-write-clause-kept
returns-in_err-write-clause-kept g c =
    let at = c.args.at in
    let vars = c.args.layout.vars in
    let values = c.args.values.now in
    let bytes = c.page_of-bytes.result in
    let long : length bytes ≡ 512 = ap length c.page_of-bytes.ensures.bytes ∙ length-page_bytes values c.loop-page.page in
    let so_far = c.loop-page.invariant in
    moments_write (HoldsOthers at vars c.args.changed values) _ _ (g.met.D.Disk.is_device c.loop-page.disk) so_far.kept so_far.elsewhere.time.later (at + 512 * c.loop-page.page) (length bytes) _ c.write.ensures.uses.model
    (λ a b. HoldsOthers-changed at vars c.args.changed c.loop-page.page (length bytes) values a b (sym c.has_page.ensures ∙ c.if-has_page.true) long) c.write.ensures.elsewhere

pub returns-clause-stand : goal.returns-clause-stand
returns-clause-stand g c = λ k.
    let all : c.loop-page.page ≡ pages_of c.args.layout.vars = omega (arith, c.pages-pages.ensures) in
    let seen = (g.D.Disk.view c.loop-page.disk).seen in
    subst (λ (l : List ℕ). StandsAt c.args.at l seen) (ap (pages_front c.args.values.now) all ∙ front_all c.args.layout.vars c.args.values.now c.requires.sized) (c.loop-page.invariant.stand k)
