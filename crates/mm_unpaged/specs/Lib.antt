pub mod Stocks
pub mod Places
pub mod Areas
pub mod Files
pub mod Shown
pub mod Fitting
pub mod Unpaged
pub use Stocks.{StockOf}
pub use Places.{is_bound_in, named_key, names_in, no_page, no_place, page_count, page_in_place}
pub use Places.{pages_at, pages_in, place_eq, range_from}
pub use Areas.{area_block, area_in, area_pages, count_in, count_of, no_areas, one_if_live}
pub use Areas.{page_of_area, size_of}
pub use Files.{IsMade, Stored, WroteDevice, made_page, page_in, page_of_block, unpaged_device}
pub use Shown.{blocks_of, page_of_area_key, plain_paging, sizes_of, unpaged_contents}
pub use Shown.{unpaged_report, whereabouts_of}
pub use Fitting.{FilesFit, Fits}
pub use Unpaged.{contents_in, store_in}
pub use declared.areas.AreaPages.{AreaPages}
pub use declared.files.FilePage.{FilePage}
pub use declared.places.BoundPlace.{BoundPlace}
