use Rattle.reference_model.proofs.GuestRows.{share_guest_made, share_guest_near, share_guest_refused, unshare_guest_made, unshare_guest_refused, donate_guest_made, donate_guest_near}
use Rattle.reference_model.proofs.LoadedRows.{donate_guest_refused, guest_share_host_made, guest_share_host_refused, guest_unshare_host_made, guest_unshare_host_refused, guest_relax_made, rights_joined, guest_relax_refused, guest_translate_made, guest_translate_refused}
use Rattle.reference_model.proofs.ShortRows.{tables_short}
use Rattle.reference_model.proofs.rows.guest_rows.Goals as goal

pub returns-clause-share_guest_made : goal.returns-clause-share_guest_made
returns-clause-share_guest_made c = share_guest_made

pub returns-clause-share_guest_near : goal.returns-clause-share_guest_near
returns-clause-share_guest_near c = share_guest_near

pub returns-clause-share_guest_refused : goal.returns-clause-share_guest_refused
returns-clause-share_guest_refused c = share_guest_refused

pub returns-clause-unshare_guest_made : goal.returns-clause-unshare_guest_made
returns-clause-unshare_guest_made c = unshare_guest_made

pub returns-clause-unshare_guest_refused : goal.returns-clause-unshare_guest_refused
returns-clause-unshare_guest_refused c = unshare_guest_refused

pub returns-clause-donate_guest_made : goal.returns-clause-donate_guest_made
returns-clause-donate_guest_made c = donate_guest_made

pub returns-clause-donate_guest_near : goal.returns-clause-donate_guest_near
returns-clause-donate_guest_near c = donate_guest_near

pub returns-clause-donate_guest_refused : goal.returns-clause-donate_guest_refused
returns-clause-donate_guest_refused c = donate_guest_refused

pub returns-clause-guest_share_host_made : goal.returns-clause-guest_share_host_made
returns-clause-guest_share_host_made c = guest_share_host_made

pub returns-clause-guest_share_host_refused : goal.returns-clause-guest_share_host_refused
returns-clause-guest_share_host_refused c = guest_share_host_refused

pub returns-clause-guest_unshare_host_made : goal.returns-clause-guest_unshare_host_made
returns-clause-guest_unshare_host_made c = guest_unshare_host_made

pub returns-clause-guest_unshare_host_refused : goal.returns-clause-guest_unshare_host_refused
returns-clause-guest_unshare_host_refused c = guest_unshare_host_refused

pub returns-clause-guest_relax_made : goal.returns-clause-guest_relax_made
returns-clause-guest_relax_made c = guest_relax_made

pub returns-clause-rights_joined : goal.returns-clause-rights_joined
returns-clause-rights_joined c = rights_joined

pub returns-clause-guest_relax_refused : goal.returns-clause-guest_relax_refused
returns-clause-guest_relax_refused c = guest_relax_refused

pub returns-clause-guest_translate_made : goal.returns-clause-guest_translate_made
returns-clause-guest_translate_made c = guest_translate_made

pub returns-clause-guest_translate_refused : goal.returns-clause-guest_translate_refused
returns-clause-guest_translate_refused c = guest_translate_refused

pub returns-clause-tables_short : goal.returns-clause-tables_short
returns-clause-tables_short c = tables_short
