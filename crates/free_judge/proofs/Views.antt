-- The host's map as the freedoms leave it, by the maps of a host that has touched all its pages, or whose devices'
-- pages are of one kind.
use Rattle.std.proofs.Common.{◌≡◌, refl, ◌∙◌}
use Rattle.std.specs.Prelude.{Bool, true, false, not, Option, Some, None, if◌then◌else◌}
use mathlib.Core.Path.{fun_ext}
use Rattle.page_state.proofs.Common.{same2}
use Rattle.page_state.specs.declared.entry.Entry.{Entry}
use Rattle.page_state.specs.declared.entry.Entry.TheVariants.{Unmapped, Malformed, Annotated, Leaf}
use Rattle.page_state.specs.declared.layout.Region.{Region}
use Rattle.page_state.specs.EntryTests.{is_unmapped}
use Rattle.page_state.specs.Layouts.{Layout}
use Rattle.page_state.specs.Map.{Map}
use Rattle.page_state.specs.Regions.{is_memory_kind, region_of}
use Rattle.reference_model.specs.model.State.{Contents}
use Rattle.freedoms.specs.declared.Freedoms.{Freedoms}
use Rattle.freedoms.specs.Freedoms.{as_device, kind_entry, own_entry, touched_entry, view, view_entry}
use Rattle.freedoms.specs.OwnTables.{without_tables}
use Rattle.host_views.specs.Seen.{kind_in, of_kind, over, own_in}
use Rattle.host_views.specs.Seen.{as_device as device_in}
use Rattle.free_judge.specs.Asked.{kind_seen}

as-same : (e : Entry) → device_in e ≡ as_device e
as-same Unmapped = refl
as-same Malformed = refl
as-same (Annotated o) = refl
as-same (Leaf f p k s) = refl

of-same : (b : Bool) (e : Entry)
    → ◌≡◌ {A = Entry} (elim b [ true ↦ e | false ↦ device_in e ]) (if not b then as_device e else e)
of-same true e = refl
of-same false e = as-same e

kind-same : (o : Option Region) (e : Entry)
    → ◌≡◌ {A = Entry} (elim o [ Some r ↦ of_kind r.kind e | None ↦ e ])
    (if (elim o [ Some r ↦ not (is_memory_kind r.kind) | None ↦ false ]) then as_device e else e)
kind-same None e = refl
kind-same (Some r) e = of-same (is_memory_kind r.kind) e

if-kind : (b : Bool) (x e : Entry) → b ≡ true → x ≡ (if b then x else e)
if-kind true x e h = refl
if-kind false x e h = cc

pub kinds-seen : (w : Freedoms) (l : Layout) (m : Map)
    → w.any_kind ≡ true
    → ◌≡◌ {A = Map} (λ p. kind_in l.memory.regions p (m p)) (λ p. kind_seen w l p (m p))
kinds-seen w l m h =
    fun_ext (λ p. kind-same (region_of l.memory p) (m p) ∙ if-kind w.any_kind (kind_entry l p (m p)) (m p) h)

touched-if : (b u : Bool) (own k : Entry)
    → b ≡ true
    → ◌≡◌ {A = Entry} (elim u [ true ↦ own | false ↦ k ]) (if b then (if u then own else k) else k)
touched-if true true own k h = refl
touched-if true false own k h = refl
touched-if false u own k h = cc

pub lazy-seen : (w : Freedoms) (l : Layout) (m : Map)
    → w.lazy_host ≡ true
    → ◌≡◌ {A = Map} (over (λ p. kind_seen w l p (m p)) (own_in l.memory.regions)) (λ p. view_entry w l p (m p))
lazy-seen w l m h =
    fun_ext
    (λ p. touched-if w.lazy_host (is_unmapped (kind_seen w l p (m p))) (own_entry l p) (kind_seen w l p (m p)) h)

if-not : (b : Bool) (x k : Entry) → b ≡ false → k ≡ (if b then x else k)
if-not true x k h = cc
if-not false x k h = refl

pub all-seen : (w : Freedoms) (l : Layout) (m : Map)
    → w.lazy_host ≡ false
    → ◌≡◌ {A = Map} (λ p. kind_seen w l p (m p)) (λ p. view_entry w l p (m p))
all-seen w l m h =
    fun_ext (λ p. if-not w.lazy_host (touched_entry l p (kind_seen w l p (m p))) (kind_seen w l p (m p)) h)

abbrev pub with_map : Contents → Map → Contents
with_map s m = record s { shared = record s.shared { host = record { map = m; table = s.shared.host.table } } }

pub viewed-by : (w : Freedoms) (l : Layout) (s t : Contents) (m : Map)
    → s ≡ without_tables t
    → m ≡ (λ p. view_entry w l p (t.shared.host.map p))
    → with_map s m ≡ view w l t
viewed-by w l s t m e h = same2 with_map e h
